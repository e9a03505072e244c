use Rattle.std.proofs.Common.{◌==◌, rules}
use Rattle.std.proofs.lemmas.List.Sorted.{IsPartitionPoint-from_clause}
use Rattle.tv_places.specs.Places.{number_of}
use Rattle.tv_places.proofs.IndexLemmas.{parted, places_told}
use Rattle.tv_places.proofs.places.count_of.Goals as goal

pub returns : goal.returns
returns c numbers index =
    let rest = c.from_number.result.now in
    let from = c.from_number.ensures index.rises in
    places_told numbers c.args.index.now rest c.args.number index from c.partition_point.result c.partition_point.ensures.bound
    (IsPartitionPoint-from_clause (λ y. number_of y == c.args.number) _ _ c.partition_point.ensures.partitioned (parted numbers c.args.index.now rest c.args.number index from) (λ a r q k. search rules))
