use Rattle.std.proofs.Common.{take, drop}
use Rattle.tv_formula.specs.Views.{properties}
use Rattle.tv_known.specs.Subformulas.{all_subformulas}
use Rattle.tv_pre.specs.Wide.{AreLinear, AreTold}
use Rattle.tv_pre.proofs.wide.+comparisons.Given as goal

abbrev pub invariant-comparisons_of_all-trees : goal.invariant-comparisons_of_all-trees
invariant-comparisons_of_all-trees l =
    AreTold l.variables (all_subformulas (properties (take l.tree-index l.trees))) l.told × AreLinear (properties (drop l.tree-index l.trees))
