use Rattle.std.proofs.Common.{◌≡◌, take, drop, true}
use Rattle.tv_program.specs.Views.{expressions}
use Rattle.tv_cases.specs.Linearity.{are_linear}
use Rattle.tv_causes.specs.Walks.{have_forms, all_forms}
use Rattle.tv_causes.proofs.JoinLemmas.{AreOver}
use Rattle.tv_causes.proofs.wide_part.forms_of.Given as goal

abbrev pub invariant-exprs : goal.invariant-exprs
invariant-exprs l = record {
  made : l.rows.items ≡ all_forms l.variables (take l.expr-index l.exprs);
  even : AreOver l.variables l.rows.items;
  linear : are_linear (expressions (drop l.expr-index l.exprs)) ≡ true;
  narrow : have_forms l.variables (expressions (drop l.expr-index l.exprs)) ≡ true;
}
