use Rattle.std.proofs.Common.{◌↔◌, ◌+◌, ◌++◌, IsTrue, subst}
use Rattle.tv_linear.specs.Known.{as_given, composed, given}
use Rattle.tv_linear.specs.Covers.{IsMetCover}
use Rattle.tv_linear.specs.Terms.{terms_after}
use Rattle.tv_finitely.specs.Entrances.{entrance_owes}
use Rattle.tv_finitely.proofs.entering.step_is_covered.Goals as goal

pub returns : goal.returns
returns c = subst (λ (x : Type 0). x) (λ i. IsTrue c.cover_is_met.result ↔ IsMetCover (c.args.columns + c.args.case.now.draws) (entrance_owes (λ r. composed (given r) (terms_after c.args.columns (c.deref.ensures.value i))) c.args.entrance.now) (as_given (c.rows.ensures i) ++ as_given (c.deref-2.ensures.value i)) c.args.tree.now) c.cover_is_met.ensures.exact
