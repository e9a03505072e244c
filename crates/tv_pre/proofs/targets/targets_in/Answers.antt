use Rattle.std.proofs.Common.{◌∙◌, ◌++◌, sym}
use Rattle.tv_region.specs.Regions.{lists_at}
use Rattle.tv_pre.proofs.TargetLemmas.{joined_more}
use Rattle.tv_pre.proofs.targets.targets_in.Goals as goal

pub regions-preserved : goal.regions-preserved
regions-preserved c =
    c.in_ok-push_targets.ensures
    ∙ (λ i. c.regions.invariant i ++ lists_at c.args.location (c.deref.ensures.value i))
    ∙ sym (joined_more c.args.location c.args.regions.now c.regions.region-index c.region-item.result c.regions-test.true c.region-item.is)
