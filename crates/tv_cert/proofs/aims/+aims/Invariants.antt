use Rattle.std.proofs.Common.{◌≡◌, ◌++◌, drop, map}
use Rattle.tv_formula.specs.Views.{property, properties}
use Rattle.tv_cases.specs.Comparisons.{comparison_lists}
use Rattle.tv_cert.specs.AimViews.{aim_states}
use Rattle.tv_cert.specs.Statable.{AreStatable}
use Rattle.tv_cert.specs.Statements.{stated}
use Rattle.tv_cert.proofs.aims.+aims.Given as goal

abbrev pub invariant-aims_of-loop-part : goal.invariant-aims_of-loop-part
invariant-aims_of-loop-part l =
    (map aim_states l.aims.items ++ map (stated (comparison_lists l.variables)) (map property (drop l.part-index l.parts)) ≡ map (stated (comparison_lists l.variables)) (map property l.parts))
    × AreStatable (properties (drop l.part-index l.parts))
