use Rattle.std.proofs.Common.{◌≡◌, take, drop, map, true}
use Rattle.std.specs.List.{list_all}
use Rattle.tv_program.specs.Views.{expressions}
use Rattle.tv_cases.specs.Comparisons.{own_form}
use Rattle.tv_cases.specs.Forms.{is_narrow}
use Rattle.tv_cases.specs.Linearity.{are_linear}
use Rattle.tv_causes.specs.Widths.{parts_of_all}
use Rattle.tv_causes.proofs.wide_part.+parts.Given as goal

abbrev pub invariant-wide_part_of-exprs : goal.invariant-wide_part_of-exprs
invariant-wide_part_of-exprs l = record {
  narrow : list_all is_narrow (map (own_form l.variables) (parts_of_all (expressions (take l.expr-index l.exprs)))) ≡ true;
  linear : are_linear (expressions (drop l.expr-index l.exprs)) ≡ true;
}
