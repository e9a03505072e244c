use Rattle.std.proofs.Common.{◌≡◌, ℕ, map, take}
use Rattle.tv_places.specs.Places.{places_of, place_of, stands_of}
use Rattle.tv_places.proofs.places.index.Given as goal

abbrev pub invariant-loop-place : goal.invariant-loop-place
invariant-loop-place l = (n : ℕ) → map place_of (stands_of n l.stands.items) ≡ places_of n (take l.place l.numbers)
