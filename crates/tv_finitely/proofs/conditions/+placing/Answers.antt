use Rattle.std.proofs.Common.{◌≡◌, ◌∙◌, map, ap, arith}
use Rattle.std.proofs.lemmas.Grind.{common_steps}
use Rattle.tv_program.specs.Views.{condition, tests_of}
use Rattle.tv_formula.specs.Views.{property}
use Rattle.tv_finitely.specs.Doubling.{condition_at}
use Rattle.tv_finitely.proofs.Assumed.{tests-at}
use Rattle.tv_finitely.proofs.conditions.+placing.Goals as goal

pub conditions_at-returns : goal.conditions_at-returns
conditions_at-returns t c =
    let all : map condition c.loop-part.all.items ≡ map (condition_at c.args.location) (map property c.args.parts.now) = grind (arith, common_steps) in
    ap tests_of all ∙ tests-at c.args.location (map property c.args.parts.now)
