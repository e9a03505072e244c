use Rattle.tv_region.proofs.AddLemmas.{all_wide}
use Rattle.tv_region.proofs.pruning.point_of.Goals as goal

pub refute-requires-clause-even : goal.refute-requires-clause-even
refute-requires-clause-even c = all_wide c.args.limits.now.columns c.args.rows.now c.requires
