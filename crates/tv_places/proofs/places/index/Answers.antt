use Rattle.std.proofs.Common.{map, ap, ◌∙◌, rules, arith}
use Rattle.std.proofs.lemmas.List.{take_all}
use Rattle.std.proofs.lemmas.List.Sorted.{IsNonDecreasingBy-from_sort_by_key, answers_always}
use Rattle.tv_places.specs.Places.{places_from, places_of, number_of, place_of, stands_of}
use Rattle.tv_places.proofs.IndexLemmas.{stand_added, sorted_index}
use Rattle.tv_places.proofs.places.index.Goals as goal

pub loop-place-init : goal.loop-place-init
unfolding places_from
loop-place-init c n = ap (λ stands. map place_of (stands_of n stands)) c.in_ok-stands.ensures.items

pub loop-place-preserved : goal.loop-place-preserved
loop-place-preserved c n = ap (λ stands. map place_of (stands_of n stands)) c.in_ok-push.ensures.items ∙ stand_added c.args.numbers.now c.loop-place.stands.items c.loop-place.place 0 n (omega arith) (c.loop-place.invariant n)

pub returns : goal.returns
returns c =
    let sort = c.in_ok-sort_by_key.ensures in
    let all = take_all c.loop-place.place c.args.numbers.now (omega arith) in
    sorted_index c.args.numbers.now c.loop-place.stands.items c.sort_by_key.new.self.items
    (λ n. c.loop-place.invariant n ∙ ap (places_of n) all)
    (IsNonDecreasingBy-from_sort_by_key number_of _ sort.sorted (λ a r q k. search rules))
    (sort.stable number_of (answers_always _ _ _ (λ f a r g h. search rules)))
