use Rattle.std.proofs.Common.{subst}
use Rattle.tv_cases.specs.Systems.{cases_of}
use Rattle.tv_pre.specs.Proving.{IsUnproved}
use Rattle.tv_top.proofs.paths.unproved.Goals as goal

pub left-requires : goal.left-requires
left-requires c = (subst (IsUnproved (cases_of c.args.search.now.about.now) c.args.search.now.claim.now c.requires.0) c.in-Left.is c.requires.1).0

pub too_wide_comparison-requires : goal.too_wide_comparison-requires
too_wide_comparison-requires c =
    (c.in-Wide.place, (subst (IsUnproved (cases_of c.args.search.now.about.now) c.args.search.now.claim.now c.requires.0) c.in-Wide.is c.requires.1).1)
