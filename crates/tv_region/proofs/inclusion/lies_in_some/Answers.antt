use Rattle.std.proofs.Common.{subst}
use Rattle.tv_region.specs.Inclusion.{LiesInside}
use Rattle.tv_region.proofs.InclusionLemmas.{inside_some}
use Rattle.tv_region.proofs.inclusion.lies_in_some.Goals as goal

pub returns-then-branch : goal.returns-then-branch
returns-then-branch c = λ yes.
    inside_some c.args.limits.now.columns c.args.rows.now c.args.lists.now c.lists.list-index c.list-item.result c.lists-test.true c.list-item.is
    (subst (LiesInside c.args.limits.now.columns c.args.rows.now) c.deref.ensures.value (c.in_ok-is_found_inside.ensures c.if-branch.true))
