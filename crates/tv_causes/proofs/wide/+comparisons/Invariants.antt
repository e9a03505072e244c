use Rattle.std.proofs.Common.{take, drop}
use Rattle.std.specs.Prelude.{None}
use Rattle.tv_formula.specs.Views.{properties}
use Rattle.tv_known.specs.Subformulas.{all_subformulas}
use Rattle.tv_causes.specs.Walks.{TellsBoth}
use Rattle.tv_causes.specs.Widths.{AreLinear}
use Rattle.tv_causes.proofs.wide.+comparisons.Given as goal

abbrev pub invariant-wide_in_all-trees : goal.invariant-wide_in_all-trees
invariant-wide_in_all-trees l =
    TellsBoth l.variables (all_subformulas (properties (take l.tree-index l.trees))) None × AreLinear (properties (drop l.tree-index l.trees))
