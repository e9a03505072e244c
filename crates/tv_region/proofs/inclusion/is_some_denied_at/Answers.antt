use Rattle.tv_region.proofs.RowLemmas.{has_at}
use Rattle.tv_region.proofs.inclusion.is_some_denied_at.Goals as goal

pub is_denied_at-requires : goal.is_denied_at-requires
is_denied_at-requires c = c.requires c.row-item.result (has_at c.args.rows.now c.rows.row-index c.row-item.result c.rows-test.true c.row-item.is)
