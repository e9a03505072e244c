-- Numbers that have 128 bits, and places.
use Rattle.std.proofs.Common.{FitsSigned, ◌≡◌, ℕ, zero, suc, ◌+◌, ◌<◌, ◌≤◌, ◌^◌, List, [], ◌∷◌, ◌++◌, length, take, All, arith, refl, sym, subst, ℤ, pos, ◌-ℤ◌, unsigned_abs, None, Some, slice_get, Bool, cond, true, false, ◌==◌, ◌⊎◌, inl, inr}
use Rattle.std.specs.Int.{w128}
use Rattle.std.specs.Prelude.{Contains}
use Rattle.std.proofs.lemmas.Int.{ints, fits_signed_from_abs}
use Rattle.std.proofs.lemmas.Option.{slice_get_within, get_or_from_slice_get, slice_get_read}
use Rattle.std.proofs.lemmas.List.Elements.{filter_passes}
use Rattle.std.proofs.lemmas.Bool.{eq-eqb, eqb-true}
use Rattle.tv_simplex.specs.Outcomes.{IsShort}
use Rattle.tv_linear.specs.Linear.{columns}
use Rattle.tv_linear.specs.declared.region.Piece.{Piece}
use Rattle.tv_linear.proofs.ListLaws.{take_past, take_more}
use Rattle.tv_cases.specs.LinearCases.{LinearCase, IsCase, from_of, leaving}
use Rattle.tv_choice.specs.Leading.{place_of, pieces_at, piece_rows}
use Rattle.tv_places.proofs.PlaceLemmas.{past_end}
use Rattle.tv_cases.proofs.ContainsLemmas.{Contains-filter}

pub less_fits : (z : ℤ) → IsShort z → FitsSigned w128 (z -ℤ pos 1)
less_fits z h = fits_signed_from_abs w128 (z -ℤ pos 1) (let l : unsigned_abs (z -ℤ pos 1) < 2 ^ 127 = omega (arith, ints, h) in l)

-- ---- pieces at a location
kept_fewer : (p : Piece) (ps rest : List Piece) (b : Bool) → length rest ≤ length ps → length (cond b (p ∷ rest) rest) ≤ length (p ∷ ps)
kept_fewer p ps rest true h = omega (arith, h)
kept_fewer p ps rest false h = omega (arith, h)

fewer_at : (ps : List Piece) (l : ℕ) → length (pieces_at ps l) ≤ length ps
fewer_at [] l = omega arith
fewer_at (p ∷ ps) l = kept_fewer p ps (pieces_at ps l) (place_of p == l) (fewer_at ps l)

pub piece_within : (ps : List Piece) (l k : ℕ) (p : Piece) → slice_get (pieces_at ps l) k ≡ Some p → k < length (pieces_at ps l)
piece_within ps l k p e = slice_get_within (pieces_at ps l) k p e

pub place_fits : (ps : List Piece) (l k : ℕ) (p : Piece) → length ps < 2 ^ 32 → slice_get (pieces_at ps l) k ≡ Some p → k + 1 < 2 ^ 32
place_fits ps l k p bounded e = (let a = piece_within ps l k p e in let b = fewer_at ps l in omega (arith, a, b, bounded))

-- what holds of the pieces at the places below one past the last holds of each
pub all_below : {A : Type 0} (P : A → Type 0) (xs : List A) (k : ℕ) → slice_get xs k ≡ None → ((j : ℕ) (x : A) → j < k → slice_get xs j ≡ Some x → P x) → (x : A) → Contains xs x → P x
all_below P xs k e h x c =
    let m = past_end xs k e in
    h c.0 x (let l = c.1 in omega (arith, m, l)) (slice_get_read xs (length xs) c.0 x refl c.1 (sym c.2))

-- ---- cases
pub is_case : (v m : ℕ) (cases : List LinearCase) (i : ℕ) (c : LinearCase) → All (IsCase v m) cases → slice_get cases i ≡ Some c → IsCase v m c
is_case v m cases i c h e = subst (IsCase v m) (get_or_from_slice_get cases i c c e) (h i c (slice_get_within cases i c e))

pub among_case : (v m : ℕ) (cases : List LinearCase) (c : LinearCase) → All (IsCase v m) cases → Contains cases c → IsCase v m c
among_case v m cases c h g = subst (IsCase v m) g.2 (h g.0 c g.1)

-- the rows of a piece that is got
pub piece_even : (n : ℕ) (ps : List Piece) (p : Piece) → All (λ q. All (λ r. columns r ≡ n) (piece_rows q)) ps → Contains ps p → All (λ r. columns r ≡ n) (piece_rows p)
piece_even n ps p h g = subst (λ q. All (λ r. columns r ≡ n) (piece_rows q)) g.2 (h g.0 p g.1)

-- ---- the front of a list
pub contains_last : {A : Type 0} (xs : List A) (x y : A) → Contains (xs ++ x ∷ []) y → (x ≡ y) ⊎ Contains xs y
contains_last [] x y (zero, l, e) = inl e
contains_last [] x y (suc k, l, e) = absurd (omega (arith, l))
contains_last (z ∷ xs) x y (zero, l, e) = inr (zero, omega arith, e)
contains_last (z ∷ xs) x y (suc k, l, e) = later (contains_last xs x y (k, omega (arith, l), e))
  where
    later : (x ≡ y) ⊎ Contains xs y → (x ≡ y) ⊎ Contains (z ∷ xs) y
    later (inl s) = inl s
    later (inr c) = inr (suc c.0, (let l' = c.1 in omega (arith, l')), c.2)

pub contains_more : {A : Type 0} (xs : List A) (i : ℕ) (x y : A) → slice_get xs i ≡ Some x → Contains (take (i + 1) xs) y → (x ≡ y) ⊎ Contains (take i xs) y
contains_more xs i x y e c = contains_last (take i xs) x y (subst (λ k. Contains k y) (take_more xs i x e) c)

pub contains_all : {A : Type 0} (xs : List A) (i : ℕ) (y : A) → length xs ≤ i → Contains xs y → Contains (take i xs) y
contains_all xs i y l c = subst (λ k. Contains k y) (sym (take_past xs i l)) c

-- what is got among the cases from a location is from there
pub leaving_from : (l : ℕ) (cs : List LinearCase) (k : ℕ) (c : LinearCase) → slice_get (leaving l cs) k ≡ Some c → c.from ≡ l
leaving_from l cs k c e =
    let test : LinearCase → Bool = λ q. from_of q == l in
    let within = slice_get_within (leaving l cs) k c e in
    let is = get_or_from_slice_get (leaving l cs) k c c e in
    eqb-true (from_of c) l (subst (λ q. test q ≡ true) is (filter_passes test cs k c within))

-- a case from the location is among those that leave it
pub Contains-leaving : (l : ℕ) (cases : List LinearCase) (c : LinearCase) → c.from ≡ l → Contains cases c → Contains (leaving l cases) c
Contains-leaving l cases c e h = Contains-filter (λ q. from_of q == l) cases c (eq-eqb (from_of c) l e) h
