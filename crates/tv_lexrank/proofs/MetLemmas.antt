-- The rows that are met where a case is taken, over its columns.
use Rattle.std.proofs.Common.{◌≡◌, ℕ, zero, suc, ◌+◌, ◌-◌, ◌<◌, ◌^◌, List, [], ◌∷◌, length, map, All, Option, None, Some, Vec, Bool, true, false, ◌==◌, arith, sym, subst, ℤ, pos, ◌≤ℤ◌}
use Rattle.std.specs.Global.{Global}
use Rattle.std.proofs.lemmas.Bool.Decides.{nat_tests}
use Rattle.std.proofs.lemmas.List.Elements.{All-nil, All-head, All-tail, All-append, All-weaker}
use Rattle.tv_linear.specs.Linear.{Linear, columns, scaled_value}
use Rattle.tv_linear.specs.Arithmetic.{padded_row}
use Rattle.tv_linear.specs.Known.{as_given}
use Rattle.tv_linear.specs.declared.region.Piece.{Piece}
use Rattle.tv_linear.proofs.KnownLemmas.{as_given-append}
use Rattle.tv_linear.specs.Same.{AreSame}
use Rattle.tv_linear.proofs.SameLemmas.{same_append, all_same, refutes_same}
use Rattle.tv_linear.proofs.PaddedLemmas.{padded_same, padded_even, padded_below}
use Rattle.tv_rank.specs.Ways.{Way, rows_at}
use Rattle.tv_lexrank.specs.Known.{piece_rows, way_rows, padded_rows}
use Rattle.tv_lexrank.specs.Sorting.{IsSettled, IsTaken}
use Rattle.std.proofs.lemmas.List.{nil_from_length}

-- ---- lists that are empty or not
pub not_empty : {A : Type 0} (xs : List A) (b : Bool) → b ≡ (length xs == 0) → b ≡ false → 0 < length xs
not_empty [] b e n = absurd (grind (arith, nat_tests, e, n))
not_empty (x ∷ xs) b e n = omega arith

pub is_none : {A : Type 0} (xs : List A) (b : Bool) → b ≡ (length xs == 0) → b ≡ true → xs ≡ []
is_none xs b e t = nil_from_length xs (grind (arith, nat_tests, e, t))

-- ---- rows over more columns

pub padded_rows_same : (n : ℕ) (w : Way) → AreSame n (as_given (padded_rows w)) (way_rows w)
padded_rows_same n w =
    subst (λ ks. AreSame n ks (way_rows w)) (sym (as_given-append (map (padded_row w.taken.draws) w.known) w.taken.guards))
    (same_append n (as_given (map (padded_row w.taken.draws) w.known)) (as_given w.known) (as_given w.taken.guards) (as_given w.taken.guards) (padded_same n w.taken.draws w.known) (all_same n (as_given w.taken.guards)))

pub rows_even : (v : ℕ) (w : Way) → All (λ r. columns r ≡ v) w.known → All (λ r. columns r ≡ v + w.taken.draws) w.taken.guards → All (λ r. columns r ≡ v + w.taken.draws) (padded_rows w)
rows_even v w h g = All-append (λ r. columns r ≡ v + w.taken.draws) (map (padded_row w.taken.draws) w.known) w.taken.guards (padded_even v w.taken.draws w.known h) g

-- ---- the rows that are known at a location
pub over_at : (v : ℕ) (known : List Piece) (l : ℕ) → All (λ p. All (λ r. columns r ≡ v) (piece_rows p)) known → All (λ r. columns r ≡ v) (rows_at known l)
over_at v [] l h = All-nil (λ r. columns r ≡ v)
over_at v (p ∷ ps) zero h = All-head (λ p. All (λ r. columns r ≡ v) (piece_rows p)) p ps h
over_at v (p ∷ ps) (suc l) h = over_at v ps l (All-tail (λ p. All (λ r. columns r ≡ v) (piece_rows p)) p ps h)

-- rows over v variables have room for `more` further columns
pub have_room : (v more : ℕ) (rows : List Linear) → v + more < 2 ^ 32 - 1 → All (λ r. columns r ≡ v) rows → All (λ r. columns r + more < 2 ^ 32 - 1) rows
have_room v more rows l h = All-weaker (λ r. columns r ≡ v) (λ r. columns r + more < 2 ^ 32 - 1) (λ r e. omega (arith, e, l)) rows h

-- ---- points and refutations
abbrev IsBelow : List ℤ → ℤ → Linear → Type 0
IsBelow xs z r = scaled_value r xs z ≤ℤ pos 0

-- what is settled of the rows over the columns of the case is settled of those that are met
pub taken_padded : (v : ℕ) (w : Way) (o : Option (Vec ℤ Global)) → IsSettled (v + w.taken.draws) (padded_rows w) o → IsTaken v w o
taken_padded v w None (xs, z, size, p) = (xs, z, record { width = size; meets = record { positive = p.positive; met = padded_below w.taken.draws w.known w.taken.guards xs z p.met } })
taken_padded v w (Some ms) (r, short) = (refutes_same (v + w.taken.draws) (as_given (padded_rows w)) (way_rows w) ms.items (padded_rows_same (v + w.taken.draws) w) r, short)
