-- Rows, cases and regions that are found to be of differences.
use Rattle.std.proofs.Common.{◌+◌, get_or, take, ◌≡◌, ◌⊎◌, inl, inr, ℕ, zero, suc, ◌<◌, ◌≤◌, List, [], ◌∷◌, length, refl, sym, ap, ◌∙◌, subst, arith, ℤ, pos, negsuc, true, false, Bool, ◌==◌}
use Rattle.std.specs.Prelude.{All, cond, ◌≤ℤ◌, slice_index_or}
use Rattle.std.proofs.lemmas.Int.{ints}
use Rattle.std.proofs.lemmas.List.Elements.{All-head, All-tail, All-more}
use Rattle.tv_linear.specs.Linear.{Linear}
use Rattle.tv_linear.specs.declared.region.Piece.{Piece}
use Rattle.tv_linear.specs.declared.region.Region.{Region}
use Rattle.tv_cases.specs.LinearCases.{LinearCase}
use Rattle.tv_cases.specs.declared.case.Case.{Case}
use Rattle.tv_cases.specs.Views.{case_view, case_views}
use Rattle.tv_region.specs.Met.{Has, InSome}
use Rattle.tv_region.specs.Regions.{lists_at}
use Rattle.tv_region.specs.Differences.{coefficient, IsDifference, IsShift, IsCaseOfDifferences, IsOfDifferences}
use Rattle.tv_pre.specs.Finding.{AreBetweenNumbers, IsAtMostOnce}
use Rattle.std.proofs.lemmas.Bool.{cases_lt, eq-eqb}

beyond : (xs : List ℤ) (j : ℕ) → length xs ≤ j → slice_index_or xs j (pos 0) ≡ pos 0
beyond [] j l = refl
beyond (x ∷ xs) zero l = absurd (omega (arith, l))
beyond (x ∷ xs) (suc j) l = beyond xs j (omega (arith, l))

unit : (z : ℤ) → negsuc 0 ≤ℤ z → z ≤ℤ pos 1 → (z ≡ pos 0) ⊎ ((z ≡ pos 1) ⊎ (z ≡ negsuc 0))
unit (pos zero) l m = inl refl
unit (pos (suc zero)) l m = inr (inl refl)
unit (pos (suc (suc n))) l m = absurd (omega (arith, ints, m))
unit (negsuc zero) l m = inr (inr refl)
unit (negsuc (suc n)) l m = absurd (omega (arith, ints, l))

bit : (z : ℤ) → pos 0 ≤ℤ z → z ≤ℤ pos 1 → (z ≡ pos 0) ⊎ (z ≡ pos 1)
bit (pos zero) l m = inl refl
bit (pos (suc zero)) l m = inr refl
bit (pos (suc (suc n))) l m = absurd (omega (arith, ints, m))
bit (negsuc n) l m = absurd (omega (arith, ints, l))

once : (xs : List ℤ) (w : ℤ) → (w ≡ pos 0 → ⊥) → IsAtMostOnce w xs → (i j : ℕ) → slice_index_or xs i (pos 0) ≡ w → slice_index_or xs j (pos 0) ≡ w → i ≡ j
once xs w n h i j e f = elim (cases_lt i (length xs)) [
  | inl l ↦ elim (cases_lt j (length xs)) [
    | inl m ↦ h i j l m e f
    | inr m ↦ absurd (n (sym f ∙ beyond xs j m))
  ]
  | inr l ↦ absurd (n (sym e ∙ beyond xs i l))
]

pub is_difference : (r : Linear) → AreBetweenNumbers (negsuc 0) (pos 1) r.coefficients → IsAtMostOnce (pos 1) r.coefficients → IsAtMostOnce (negsuc 0) r.coefficients → IsDifference r
is_difference r b o t = record {
  each = λ j. elim (cases_lt j (length r.coefficients)) [ inl l ↦ unit (coefficient r j) (b j l).0 (b j l).1 | inr l ↦ inl (beyond r.coefficients j l) ];
  one_added = λ i j e f. once r.coefficients (pos 1) (λ n. cc) o i j e f;
  one_taken_off = λ i j e f. once r.coefficients (negsuc 0) (λ n. cc) t i j e f;
}

pub is_shift : (r : Linear) → AreBetweenNumbers (pos 0) (pos 1) r.coefficients → IsAtMostOnce (pos 1) r.coefficients → IsShift r
is_shift r b o = record {
  each = λ j. elim (cases_lt j (length r.coefficients)) [ inl l ↦ bit (coefficient r j) (b j l).0 (b j l).1 | inr l ↦ inl (beyond r.coefficients j l) ];
  one = λ i j e f. once r.coefficients (pos 1) (λ n. cc) o i j e f;
}

pub all_has : {A : Type 0} (P : A → Type 0) (xs : List A) → All P xs → (x : A) → Has xs x → P x
all_has P [] h x m = absurd m
all_has P (y ∷ ys) h x (inl e) = subst P e (All-head P y ys h)
all_has P (y ∷ ys) h x (inr m) = all_has P ys (All-tail P y ys h) x m

pub all_cases : (cases : List Case) → All (λ c. IsCaseOfDifferences (case_view c)) cases → (c : LinearCase) → Has (case_views cases) c → IsCaseOfDifferences c
all_cases [] h c m = absurd m
all_cases (k ∷ ks) h c (inl e) = subst IsCaseOfDifferences e (All-head (λ x. IsCaseOfDifferences (case_view x)) k ks h)
all_cases (k ∷ ks) h c (inr m) = all_cases ks (All-tail (λ x. IsCaseOfDifferences (case_view x)) k ks h) c m

all_pieces : (pieces : List Piece) → All (λ (p : Piece). All IsDifference p.poly.rows.items) pieces → (l : ℕ) (r : Linear) → InSome (lists_at l pieces) r → IsDifference r
all_pieces [] h l r m = absurd m
all_pieces (p ∷ ps) h l r m = by_place (p.location == l) m (λ w. all_pieces ps (All-tail (λ (q : Piece). All IsDifference q.poly.rows.items) p ps h) l r w) where
  by_place : (b : Bool) → InSome (cond b (p.poly.rows.items ∷ lists_at l ps) (lists_at l ps)) r → (InSome (lists_at l ps) r → IsDifference r) → IsDifference r
  by_place true (inl w) rest = all_has IsDifference p.poly.rows.items (All-head (λ (q : Piece). All IsDifference q.poly.rows.items) p ps h) r w
  by_place true (inr w) rest = rest w
  by_place false w rest = rest w

pub piece_more : (pieces : List Piece) (i : ℕ) (p : Piece) → i < length pieces → p ≡ get_or pieces i p → All (λ (q : Piece). All IsDifference q.poly.rows.items) (take i pieces) → All IsDifference p.poly.rows.items → All (λ (q : Piece). All IsDifference q.poly.rows.items) (take (i + 1) pieces)
piece_more pieces i p l e h w = All-more (λ (q : Piece). All IsDifference q.poly.rows.items) pieces i p l h (subst (λ (q : Piece). All IsDifference q.poly.rows.items) e w)

pub case_more : (cases : List Case) (i : ℕ) (c : Case) → i < length cases → c ≡ get_or cases i c → All (λ (x : Case). IsCaseOfDifferences (case_view x)) (take i cases) → IsCaseOfDifferences (case_view c) → All (λ (x : Case). IsCaseOfDifferences (case_view x)) (take (i + 1) cases)
case_more cases i c l e h w = All-more (λ (x : Case). IsCaseOfDifferences (case_view x)) cases i c l h (subst (λ (x : Case). IsCaseOfDifferences (case_view x)) e w)

pub all_rows : (region : Region) → All (λ (p : Piece). All IsDifference p.poly.rows.items) region.pieces.items → IsOfDifferences region
all_rows region h r m = all_pieces region.pieces.items h m.0 r m.1

-- ---- what is of differences is found to be so
-- what was found to be false is not true
pub not_false : (b : Bool) → b ≡ true → b ≡ false → false ≡ true
not_false b t f = sym f ∙ t

abbrev IsBetween : ℤ → ℤ → ℤ → Type 0
IsBetween least most z = (least ≤ℤ z) × (z ≤ℤ most)

pub piece_row : (pieces : List Piece) (i : ℕ) (p : Piece) → i < length pieces → p ≡ get_or pieces i p → (r : Linear) → Has p.poly.rows.items r → InSome (lists_at p.location pieces) r
piece_row [] i p l e r m = absurd (omega (arith, l))
piece_row (q ∷ qs) zero p l e r m =
    subst (λ b. InSome (cond b (q.poly.rows.items ∷ lists_at p.location qs) (lists_at p.location qs)) r) (sym (eq-eqb q.location p.location (ap (λ (z : Piece). z.location) (sym e))))
    (inl (subst (λ (z : Piece). Has z.poly.rows.items r) e m))
piece_row (q ∷ qs) (suc i) p l e r m = behind (q.location == p.location) (piece_row qs i p (omega (arith, l)) e r m) where
  behind : (b : Bool) → InSome (lists_at p.location qs) r → InSome (cond b (q.poly.rows.items ∷ lists_at p.location qs) (lists_at p.location qs)) r
  behind true w = inr w
  behind false w = w
