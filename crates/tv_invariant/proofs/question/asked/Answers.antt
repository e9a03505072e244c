use Rattle.tv_cover.specs.Targets.{lists_of}
use Rattle.tv_invariant.proofs.RowLemmas.{one_list, asked_of}
use Rattle.tv_invariant.proofs.question.asked.Goals as goal

pub returns-clause-asked : goal.returns-clause-asked
returns-clause-asked c =
    asked_of c.args.ambient.now.columns c.args.ambient.now.rows.items c.args.row (lists_of c.deref.result.now)
    (one_list c.deref.result.now c.push_item-2.new.items.items c.new-targets.result.items _ c.new-rows.result.items c.args.row c.deref.ensures.value c.in_ok-push_item-2.ensures c.new-targets.ensures.items c.in_ok-push_item.ensures c.new-rows.ensures.items)
    c.cover.result c.cover.ensures.answers c.cover.ensures.none
