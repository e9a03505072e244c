use Rattle.std.proofs.Common.{[], subst}
use Rattle.tv_cover.specs.Covering.{GivesHole, HasSplitRows}
use Rattle.tv_cover.proofs.EmptyLemmas.{whole_point, even_splits, empty_fault}
use Rattle.tv_cover.proofs.emptying.empty.Goals as goal

-- src/emptying.rt:19:1
pub returns-in-Err-clause-refusals : goal.returns-in-Err-clause-refusals
returns-in-Err-clause-refusals c =
    empty_fault c.args.columns c.args.rows.now c.args.budget.now.pivots c.args.budget.now.splits c.in-Err.fault c.in-Err.ensures.refusals

-- src/emptying.rt:19:1
pub returns-in-Ok-Tree-clause-split_rows : goal.returns-in-Ok-Tree-clause-split_rows
returns-in-Ok-Tree-clause-split_rows c =
    even_splits c.args.columns c.in-Ok-Tree.cover (subst (HasSplitRows c.args.columns []) c.in-Ok-Tree.field-0-is c.in-Ok-Tree.ensures.split_rows)

-- src/emptying.rt:19:1
pub returns-in-Ok-Hole-clause-first : goal.returns-in-Ok-Hole-clause-first
returns-in-Ok-Hole-clause-first c =
    whole_point c.args.columns c.args.rows.now c.in-Ok-Hole.point.items (subst (GivesHole c.args.columns [] c.args.rows.now) c.in-Ok-Hole.field-0-is c.in-Ok-Hole.ensures.point)
