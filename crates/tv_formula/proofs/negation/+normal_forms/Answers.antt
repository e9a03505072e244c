use Rattle.std.proofs.Common.{◌≡◌, map, sym, ap, ◌∙◌, arith}
use Rattle.std.proofs.lemmas.Grind.{common_steps}
use Rattle.tv_formula.specs.Normal.{negation, normal}
use Rattle.tv_formula.specs.Views.{property, properties_of}
use Rattle.tv_formula.proofs.NormalLemmas.{negations_of, normals_of}
use Rattle.tv_formula.proofs.negation.+normal_forms.Goals as goal

pub negations_of-returns : goal.negations_of-returns
negations_of-returns t c =
    let all : map property c.loop-part.all.items ≡ map negation (map property c.args.parts.now) = grind (arith, common_steps) in
    ap properties_of all ∙ sym (negations_of (map property c.args.parts.now))

pub normals_of-returns : goal.normals_of-returns
normals_of-returns t c =
    let all : map property c.loop-part.all.items ≡ map normal (map property c.args.parts.now) = grind (arith, common_steps) in
    ap properties_of all ∙ sym (normals_of (map property c.args.parts.now))
