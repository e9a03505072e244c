use Rattle.std.proofs.Common.{◌≡◌, map, ap, sym, ◌∙◌, arith}
use Rattle.std.proofs.lemmas.Grind.{common_steps}
use Rattle.tv_formula.specs.Views.{property}
use Rattle.tv_cases.specs.Comparisons.{comparison_lists}
use Rattle.tv_cert.specs.AimViews.{aim_states, statements_of}
use Rattle.tv_cert.specs.Statements.{stated}
use Rattle.tv_cert.proofs.AimedLemmas.{all_stated}
use Rattle.tv_cert.proofs.aims.+aims.Goals as goal

pub aims_of-returns : goal.aims_of-returns
aims_of-returns t c =
    let tests = comparison_lists c.args.variables in
    let all : map aim_states c.loop-part.aims.items ≡ map (stated tests) (map property c.args.parts.now) = grind (arith, common_steps) in
    ap statements_of all ∙ sym (all_stated tests (map property c.args.parts.now))
