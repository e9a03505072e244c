use Rattle.std.proofs.Common.{ltb, sym, rules}
use Rattle.std.proofs.lemmas.List.{take_rest}
use Rattle.std.proofs.lemmas.List.Sorted.{IsPartitionPoint-from_clause, IsPartitionedBy-ltb}
use Rattle.tv_places.specs.Places.{number_of}
use Rattle.tv_places.proofs.IndexLemmas.{from_first}
use Rattle.tv_places.proofs.places.from_number.Goals as goal

pub returns : goal.returns
returns c rises =
    from_first c.args.number c.args.index.now _ c.partition_point-first.result rises c.partition_point-first.ensures.bound
    (IsPartitionPoint-from_clause (λ y. ltb (number_of y) c.args.number) _ _ c.partition_point-first.ensures.partitioned (IsPartitionedBy-ltb number_of _ c.args.number rises) (λ a r q k. search rules))
    (sym (take_rest c.args.index.now c.partition_point-first.result))
