use Rattle.std.proofs.Common.{◌≡◌, ◌++◌, drop, map}
use Rattle.tv_formula.specs.Normal.{negation, normal}
use Rattle.tv_formula.specs.Views.{property}
use Rattle.tv_formula.proofs.negation.+normal_forms.Given as goal

abbrev pub invariant-negations_of-loop-part : goal.invariant-negations_of-loop-part
invariant-negations_of-loop-part l = map property l.all.items ++ map negation (map property (drop l.part-index l.parts)) ≡ map negation (map property l.parts)

abbrev pub invariant-normals_of-loop-part : goal.invariant-normals_of-loop-part
invariant-normals_of-loop-part l = map property l.all.items ++ map normal (map property (drop l.part-index l.parts)) ≡ map normal (map property l.parts)
