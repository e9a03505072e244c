use Rattle.tv_region.proofs.RowLemmas.{has_at}
use Rattle.tv_region.proofs.inclusion.are_shown.Goals as goal

pub is_shown-requires-clause-row : goal.is_shown-requires-clause-row
is_shown-requires-clause-row c = c.requires.outer c.row-item.result (has_at c.args.outer.now c.outer.row-index c.row-item.result c.outer-test.true c.row-item.is)
