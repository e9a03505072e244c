use Rattle.std.proofs.Common.{◌↔◌, ◌+◌, ◌++◌, IsTrue, subst}
use Rattle.tv_linear.specs.Known.{as_given, composed, given}
use Rattle.tv_linear.specs.Covers.{IsMetCover}
use Rattle.tv_linear.specs.Terms.{terms_after}
use Rattle.tv_linear.specs.Views.{rows_seen}
use Rattle.tv_cert.specs.TargetViews.{owed_at}
use Rattle.tv_check.proofs.steps.step_is_covered.Goals as goal

pub returns : goal.returns
returns c = subst (λ (x : Type 0). x) (λ i. IsTrue c.cover_is_met.result ↔ IsMetCover (c.args.columns + c.args.case.now.draws) (owed_at (λ r. composed (given r) (terms_after c.args.columns (c.deref.ensures.value i))) c.args.targets.now) (as_given (rows_seen c.args.rows) ++ as_given (c.deref-2.ensures.value i)) c.args.tree.now) c.cover_is_met.ensures.exact
