use Rattle.std.proofs.Common.{◌≡◌, arith, subst}
use Rattle.tv_simplex.specs.Outcomes.{AreUnsettled}
use Rattle.tv_simplex.specs.Views.{equations}
use Rattle.tv_simplex.proofs.WalkLemmas.{budget_spent}
use Rattle.tv_simplex.proofs.walking.walk.Goals as goal

pub returns : goal.returns
returns c = (let e : c.bases._used ≡ c.args.pivots = omega arith in subst (λ k. AreUnsettled (equations c.args.system.now) k) e (budget_spent (equations c.args.system.now) c.bases._used c.bases.table c.bases.invariant))
