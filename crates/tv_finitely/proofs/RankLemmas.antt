-- No list of ranks falls for ever.
use Rattle.std.proofs.Common.{◌≡◌, ℕ, zero, suc, ◌⊎◌, inl, inr, List, [], ◌∷◌, arith, refl, ◌<◌, ◌≤◌, sym, ap, ◌∙◌, length, ℤ, pos, ◌+ℤ◌, ◌≤ℤ◌}
use Rattle.std.proofs.lemmas.Int.{ints}
use borrow.Author.Differences.{up}
use Rattle.tv_linear.specs.Falls.{FallsAt, Falls}
use Rattle.tv_program.specs.Runs.{Ends, all_end}

-- a fall as it is seen from the first rank on
abbrev FrontFalls : List ℤ → List ℤ → Type 0
FrontFalls [] new = ⊥
FrontFalls (a ∷ old) [] = ⊥
FrontFalls (a ∷ old) (b ∷ new) = ((pos 0 ≤ℤ a) × ((b +ℤ pos 1) ≤ℤ a) × (length old ≡ length new)) ⊎ ((b ≤ℤ a) × FrontFalls old new)

FrontFalls_length : (old new : List ℤ) → FrontFalls old new → length old ≡ length new
FrontFalls_length [] new h = absurd h
FrontFalls_length (a ∷ old) [] h = absurd h
FrontFalls_length (a ∷ old) (b ∷ new) (inl w) = ap suc w.2
FrontFalls_length (a ∷ old) (b ∷ new) (inr w) = ap suc (FrontFalls_length old new w.1)

-- what a step leads to ends: `below` where the first rank falls, `again` where it does not
on_fall : (n m : ℕ) (a : ℤ) (rest : List ℤ) → up (a +ℤ pos 1) ≤ n → length rest ≡ m → ((b : ℤ) (bs : List ℤ) → up (b +ℤ pos 1) < n → length bs ≡ m → Ends FrontFalls (b ∷ bs)) → ((b : ℤ) (bs : List ℤ) → up (b +ℤ pos 1) ≤ n → length bs ≡ m → FrontFalls rest bs → Ends FrontFalls (b ∷ bs)) → (new : List ℤ) → FrontFalls (a ∷ rest) new → Ends FrontFalls new
on_fall n m a rest h e below again [] w = absurd w
on_fall n m a rest h e below again (b ∷ bs) (inl w) = below b bs (rank_below a b n w.0 w.1 h) (sym w.2 ∙ e)
  where
    rank_below : (a b : ℤ) (n : ℕ) → pos 0 ≤ℤ a → (b +ℤ pos 1) ≤ℤ a → up (a +ℤ pos 1) ≤ n → up (b +ℤ pos 1) < n
    rank_below a b n p q h = grind (arith, ints)
on_fall n m a rest h e below again (b ∷ bs) (inr w) = again b bs (rank_at_most a b n w.0 h) (sym (FrontFalls_length rest bs w.1) ∙ e) w.1
  where
    rank_at_most : (a b : ℤ) (n : ℕ) → b ≤ℤ a → up (a +ℤ pos 1) ≤ n → up (b +ℤ pos 1) ≤ n
    rank_at_most a b n p h = grind (arith, ints)

by_rest : (n m : ℕ) → ((b : ℤ) (bs : List ℤ) → up (b +ℤ pos 1) < n → length bs ≡ m → Ends FrontFalls (b ∷ bs)) → {rest : List ℤ} → Ends FrontFalls rest → (a : ℤ) → up (a +ℤ pos 1) ≤ n → length rest ≡ m → Ends FrontFalls (a ∷ rest)
by_rest n m below {rest} (all_end g) a h e = all_end (on_fall n m a rest h e below (λ b bs p q fall. by_rest n m below (g bs fall) b p q))

by_first : (m : ℕ) → ((bs : List ℤ) → length bs ≡ m → Ends FrontFalls bs) → (n : ℕ) (a : ℤ) (rest : List ℤ) → up (a +ℤ pos 1) ≤ n → length rest ≡ m → Ends FrontFalls (a ∷ rest)
by_first m short zero a rest h e = by_rest zero m (λ b bs p q. absurd (omega arith)) (short rest e) a h e
by_first m short (suc n) a rest h e = by_rest (suc n) m (λ b bs p q. by_first m short n b bs (omega arith) q) (short rest e) a h e

of_length : (m : ℕ) (ranks : List ℤ) → length ranks ≡ m → Ends FrontFalls ranks
of_length m [] e = all_end (λ new h. absurd h)
of_length zero (a ∷ rest) e = absurd (omega arith)
of_length (suc m) (a ∷ rest) e = by_first m (of_length m) (up (a +ℤ pos 1)) a rest (omega arith) (omega arith)

-- the same fall, seen from the first rank on
from_front : (old new : List ℤ) (j : ℕ) → FallsAt old new j → FrontFalls old new
from_front [] new j h = absurd (let k = h.inside in omega arith)
from_front (a ∷ old) [] j h = absurd (let k = h.as_many in omega arith)
from_front (a ∷ old) (b ∷ new) zero h = inl (h.not_below, h.falls, (let k = h.as_many in omega arith))
from_front (a ∷ old) (b ∷ new) (suc j) h = inr (
  h.none_grows 0 (omega arith),
  from_front old new j (record {
    as_many = (let k = h.as_many in omega arith);
    inside = (let k = h.inside in omega arith);
    none_grows = (λ i k. h.none_grows (suc i) (omega arith));
    falls = h.falls;
    not_below = h.not_below;
  }),
)

ends_with : {old : List ℤ} → Ends FrontFalls old → Ends Falls old
ends_with {old} (all_end h) = all_end (λ new k. ends_with (h new (from_front old new k.0 k.1)))

-- every list of ranks ends
pub falls_end : (ranks : List ℤ) → Ends Falls ranks
falls_end ranks = ends_with (of_length (length ranks) ranks refl)
