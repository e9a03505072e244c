use Rattle.std.proofs.Common.{map}
use Rattle.tv_pre.specs.Ranked.{last_line}
use Rattle.tv_pre.proofs.TreeLemmas.{entry_before, entry_onward, two_pushed}
use Rattle.tv_pre.proofs.trees.entry_of.Goals as goal

pub returns-then-target-first : goal.returns-then-target-first
returns-then-target-first c = entry_before c.args.first c.args.count c.args.target c.args.fall (map (λ l. l.items) c.args.lists.now) (map (λ l. l.items) c.in_ok-lists.lists.items) c.if-target-first.true c.in_ok-lists.ensures

pub returns : goal.returns
returns c =
    let old = map (λ l. l.items) c.args.lists.now in
    entry_onward c.args.first c.args.count c.args.target c.args.fall old (map (λ l. l.items) c.push_item-2.new.items.items) c.if-target-first.false
    (two_pushed (λ v. v.items) c.in_ok-lists.lists.items c.push_item.new.items.items c.push_item-2.new.items.items c.in_ok-last_line.field-0 c.in_ok-last_line-2.field-0 old (last_line c.args.count)
    c.in_ok-push_item.ensures c.in_ok-push_item-2.ensures c.in_ok-lists.ensures c.in_ok-last_line.ensures c.in_ok-last_line-2.ensures)
