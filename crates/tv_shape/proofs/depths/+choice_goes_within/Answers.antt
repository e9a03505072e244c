use Rattle.std.proofs.Common.{sym, ap, subst, ◌≤◌, ◌↔◌}
use Rattle.std.specs.Prelude.{IsTrue, All}
use Rattle.tv_linear.specs.Depth.{splits}
use Rattle.tv_linear.specs.ChoiceDepth.{choice_splits}
use Rattle.tv_linear.proofs.Depths.{most_splits-all}
use Rattle.tv_shape.proofs.depths.+choice_goes_within.Goals as goal

pub returns-in-NoStep : goal.returns-in-NoStep
returns-in-NoStep t c =
    let all = most_splits-all c.args.most c.in-NoStep.covers.items in
    let each = subst (λ covers. IsTrue c.covers_go_within.result ↔ All (λ cover. splits cover ≤ c.args.most) covers) c.deref-in-NoStep.ensures.value c.covers_go_within.ensures in
    subst (λ n. IsTrue c.covers_go_within.result ↔ (n ≤ c.args.most)) (sym (ap choice_splits c.in-NoStep.is)) (λ h. all.0 (each.0 h), λ h. each.1 (all.1 h))
