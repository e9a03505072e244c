use Rattle.std.proofs.Common.{true, false, ltb, rules, ◌≡◌, ◌≤◌, length, arith, sym, subst}
use Rattle.std.specs.List.{AllWithin}
use Rattle.std.proofs.lemmas.List.Sorted.{IsPartitionPoint-from_clause, IsPartitionedBy-ltb}
use Rattle.tv_simplex.specs.Entries.{AreOrdered}
use Rattle.tv_simplex.proofs.EntriesLemmas.{places_rise, ordered_taken, ordered_front, ordered_back}
use Rattle.tv_simplex.proofs.entries.count_before.Goals as goal

pub returns-clause-front : goal.returns-clause-front
returns-clause-front c = λ first end h.
    let ks = c.args.kept.now in
    let e = c.split_at.ensures.front in
    let near = subst (λ z. AreOrdered first end z) (sym e) (ordered_taken first end c.min.result ks h) in
    let parted = IsPartitionedBy-ltb (λ k. k.place) _ c.args.place (places_rise first end _ near) in
    let point = IsPartitionPoint-from_clause (λ k. ltb k.place c.args.place) _ _ c.partition_point.ensures.partitioned parted (λ a r q k. search rules) in
    ordered_front first end c.args.place c.min.result c.partition_point.result ks h
    (subst (λ z. c.partition_point.result ≤ length z) e c.partition_point.ensures.bound)
    (subst (λ z. AllWithin (λ k. ltb k.place c.args.place ≡ true) z 0 c.partition_point.result) e point.0)

pub returns-clause-back : goal.returns-clause-back
returns-clause-back c = λ first end h room.
    let ks = c.args.kept.now in
    let e = c.split_at.ensures.front in
    let near = subst (λ z. AreOrdered first end z) (sym e) (ordered_taken first end c.min.result ks h) in
    let parted = IsPartitionedBy-ltb (λ k. k.place) _ c.args.place (places_rise first end _ near) in
    let point = IsPartitionPoint-from_clause (λ k. ltb k.place c.args.place) _ _ c.partition_point.ensures.partitioned parted (λ a r q k. search rules) in
    let least = c.min.ensures in
    ordered_back first end c.args.place c.min.result c.partition_point.result ks h (λ l. omega (arith, least, l, room))
    (subst (λ z. c.partition_point.result ≤ length z) e c.partition_point.ensures.bound)
    (subst (λ z. AllWithin (λ k. ltb k.place c.args.place ≡ false) z c.partition_point.result (length z)) e point.1)
