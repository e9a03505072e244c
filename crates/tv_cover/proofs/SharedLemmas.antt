use Rattle.std.proofs.Common.{◌≡◌, ℕ, zero, suc, ◌+◌, ◌<◌, ◌^◌, List, [], ◌∷◌, ◌++◌, length, length-append, map, get_or, All, Bool, Option, None, Some, arith, refl, sym, ap, ◌∙◌, subst, ℤ, pos, neg_ℤ, ◌+ℤ◌, ◌-ℤ◌, ◌*ℤ◌, ◌<ℤ◌, ◌≤ℤ◌, unsigned_abs}
use Rattle.std.proofs.lemmas.Int.{ints}
use Rattle.std.proofs.lemmas.List.Elements.{All-nil, All-cons, All-push}
use Rattle.tv_linear.specs.Linear.{Linear, columns, IsWithin}
use Rattle.tv_linear.specs.Arithmetic.{zeros, unit, denial}
use Rattle.tv_linear.specs.Fits.{IsHeld}
use Rattle.tv_linear.specs.Known.{number, known_number, as_given, KnownHeld}
use Rattle.tv_linear.specs.Refutation.{RowsHeld, column_sum, Refutes}
use Rattle.tv_linear.proofs.PlainLists.{length-unit, unit-narrow}
use Rattle.tv_simplex.proofs.Ring.{zero_times}
use Rattle.tv_farkas.proofs.SystemLemmas.{at_of}
use Rattle.tv_farkas.proofs.StretchLemmas.{stretched_short}
use Rattle.tv_farkas.specs.Refuting.{AreShort}
use Rattle.tv_farkas.proofs.SideLemmas.{get_or-neg}
use Rattle.tv_farkas.specs.Stretching.{stretched}
use Rattle.tv_cover.specs.Targets.{IsNarrowRow}
use Rattle.tv_cover.specs.Looking.{IsShowing}
use Rattle.tv_cover.proofs.HalfLemmas.{narrow_inner}
use Rattle.std.proofs.lemmas.List.{length-map, get_or_past}

-- ---- the sums
zeros_sum : (column : Option ℕ) (kept : List Linear) (last : Linear) → column_sum (zeros (length kept) ++ pos 1 ∷ []) (as_given (kept ++ last ∷ [])) column ≡ number column last
zeros_sum column [] last = omega (arith, ints)
zeros_sum column (k ∷ kept) last = (let h = zeros_sum column kept last in let z = zero_times (pos 0) (number column k) refl in omega (arith, ints, h, z))

pair_sum : (column : Option ℕ) (kept : List Linear) (i : ℕ) (r last : Linear) → i < length kept → get_or kept i r ≡ r → column_sum (unit (length kept) i ++ pos 1 ∷ []) (as_given (kept ++ last ∷ [])) column ≡ number column r +ℤ number column last
pair_sum column [] i r last l e = absurd (omega (arith, l))
pair_sum column (k ∷ kept) zero r last l e = (let h = zeros_sum column kept last in let z = ap (λ q. number column q) e in omega (arith, ints, h, z))
pair_sum column (k ∷ kept) (suc i) r last l e = (let h = pair_sum column kept i r last (omega (arith, l)) e in let z = zero_times (pos 0) (number column k) refl in omega (arith, ints, h, z))

-- ---- the numbers on the way

module _ (column : Option ℕ) where
  abbrev AreHeld : ℤ → List ℤ → List Linear → Type 0
  AreHeld sum ms rows = RowsHeld (λ k. KnownHeld k column) sum (λ k. known_number k column) ms (as_given rows)

  zeros_held : (sum : ℤ) (kept : List Linear) (last : Linear) → unsigned_abs sum < 2 ^ 64 → unsigned_abs (number column last) < 2 ^ 64 → AreHeld sum (zeros (length kept) ++ pos 1 ∷ []) (kept ++ last ∷ [])
  zeros_held sum [] last s l = (tt, last_held (number column last) l, both_held sum (number column last) s l, tt)
    where
      last_held : (z : ℤ) → unsigned_abs z < 2 ^ 64 → IsHeld (pos 1 *ℤ z)
      last_held z h = omega (arith, ints, h)

      both_held : (a z : ℤ) → unsigned_abs a < 2 ^ 64 → unsigned_abs z < 2 ^ 64 → IsHeld (a +ℤ pos 1 *ℤ z)
      both_held a z g h = omega (arith, ints, g, h)
  zeros_held sum (k ∷ kept) last s l =
      let z = zero_times (pos 0) (number column k) refl in
      let q : sum +ℤ pos 0 *ℤ number column k ≡ sum = omega (arith, ints, z) in (
        tt,
        subst (λ v. IsHeld v) (sym z) (omega arith),
        subst (λ v. IsHeld v) (sym q) (wider sum s),
        subst (λ v. AreHeld v (zeros (length kept) ++ pos 1 ∷ []) (kept ++ last ∷ [])) (sym q) (zeros_held sum kept last s l),
      )
    where
      wider : (a : ℤ) → unsigned_abs a < 2 ^ 64 → IsHeld a
      wider a h = omega (arith, h)

  pair_held : (kept : List Linear) (i : ℕ) (r last : Linear) → i < length kept → get_or kept i r ≡ r → unsigned_abs (number column r) < 2 ^ 64 → unsigned_abs (number column last) < 2 ^ 64 → AreHeld (pos 0) (unit (length kept) i ++ pos 1 ∷ []) (kept ++ last ∷ [])
  pair_held [] i r last l e s h = absurd (omega (arith, l))
  pair_held (k ∷ kept) zero r last l e s h =
      let n = subst (λ q. unsigned_abs (number column q) < 2 ^ 64) (sym e) s in
      let q : pos 0 +ℤ pos 1 *ℤ number column k ≡ number column k = omega (arith, ints) in (
        tt,
        own_held (number column k) n,
        subst (λ v. IsHeld v) (sym q) (wider (number column k) n),
        subst (λ v. AreHeld v (zeros (length kept) ++ pos 1 ∷ []) (kept ++ last ∷ [])) (sym q) (zeros_held (number column k) kept last n h),
      )
    where
      own_held : (z : ℤ) → unsigned_abs z < 2 ^ 64 → IsHeld (pos 1 *ℤ z)
      own_held z g = omega (arith, ints, g)

      wider : (a : ℤ) → unsigned_abs a < 2 ^ 64 → IsHeld a
      wider a g = omega (arith, g)
  pair_held (k ∷ kept) (suc i) r last l e s h =
      let z = zero_times (pos 0) (number column k) refl in
      let q : pos 0 +ℤ pos 0 *ℤ number column k ≡ pos 0 = omega (arith, ints, z) in (
        tt,
        subst (λ v. IsHeld v) (sym z) (omega arith),
        subst (λ v. IsHeld v) (sym q) (omega arith),
        subst (λ v. AreHeld v (unit (length kept) i ++ pos 1 ∷ []) (kept ++ last ∷ [])) (sym q) (pair_held kept i r last (omega (arith, l)) e s h),
      )

-- ---- a row and its denial refute each other
pub zeros_signs : (n : ℕ) → All (λ m. pos 0 ≤ℤ m) (zeros n)
zeros_signs zero = All-nil (λ m. pos 0 ≤ℤ m)
zeros_signs (suc n) = All-cons (λ m. pos 0 ≤ℤ m) (pos 0) (zeros n) (omega (arith, ints)) (zeros_signs n)

unit_signs : (n i : ℕ) → All (λ m. pos 0 ≤ℤ m) (unit n i)
unit_signs zero i = All-nil (λ m. pos 0 ≤ℤ m)
unit_signs (suc n) zero = All-cons (λ m. pos 0 ≤ℤ m) (pos 1) (zeros n) (omega (arith, ints)) (zeros_signs n)
unit_signs (suc n) (suc i) = All-cons (λ m. pos 0 ≤ℤ m) (pos 0) (unit n i) (omega (arith, ints)) (unit_signs n i)

pub pair_refutes : (n : ℕ) (kept : List Linear) (i : ℕ) (row : Linear) → i < length kept → get_or kept i row ≡ row → IsNarrowRow (denial row) → Refutes n (as_given (kept ++ denial row ∷ [])) (unit (length kept) i ++ pos 1 ∷ [])
pair_refutes n kept i row l e narrow = record {
  as_many = count;
  none_negative = All-push (λ m. pos 0 ≤ℤ m) (unit (length kept) i) (pos 1) (unit_signs (length kept) i) (omega (arith, ints));
  columns = λ j g. pair_sum (Some j) kept i row (denial row) l e ∙ cancels (get_or row.coefficients j (pos 0)) (get_or (map neg_ℤ row.coefficients) j (pos 0)) (get_or-neg row.coefficients j);
  constant = subst (λ z. pos 0 <ℤ z) (sym (pair_sum None kept i row (denial row) l e)) (left_over row.constant);
  columns_held = λ j g. pair_held (Some j) kept i row (denial row) l e (own (get_or row.coefficients j (pos 0)) (get_or (map neg_ℤ row.coefficients) j (pos 0)) (get_or-neg row.coefficients j) (inner j)) (wider (get_or (map neg_ℤ row.coefficients) j (pos 0)) (inner j));
  constant_held = pair_held None kept i row (denial row) l e (constant_small row.constant last) (wider (pos 1 -ℤ row.constant) last);
}
  where
    count : length (unit (length kept) i ++ pos 1 ∷ []) ≡ length (as_given (kept ++ denial row ∷ []))
    count = counts (length (unit (length kept) i)) (length kept) (length-append (unit (length kept) i) (pos 1 ∷ [])) (length-unit (length kept) i) (length-map (kept ++ denial row ∷ []) _) (length-append kept (denial row ∷ []))
      where
        counts : {x y z : ℕ} (a b : ℕ) → x ≡ a + 1 → a ≡ b → y ≡ z → z ≡ b + 1 → x ≡ y
        counts a b p q s t = omega (arith, p, q, s, t)

    cancels : (a b : ℤ) → b ≡ neg_ℤ a → a +ℤ b ≡ pos 0
    cancels a b g = omega (arith, ints, g)

    left_over : (k : ℤ) → pos 0 <ℤ (k +ℤ (pos 1 -ℤ k))
    left_over k = omega (arith, ints)

    inner : (j : ℕ) → unsigned_abs (get_or (map neg_ℤ row.coefficients) j (pos 0)) < 2 ^ 62
    inner j = narrow_inner (map neg_ℤ row.coefficients) (pos 1 -ℤ row.constant) narrow j

    last : unsigned_abs (pos 1 -ℤ row.constant) < 2 ^ 62
    last = subst (λ z. unsigned_abs z < 2 ^ 62) (get_or_past (map neg_ℤ row.coefficients) (columns (denial row)) (pos 1 -ℤ row.constant) (omega arith)) (narrow (columns (denial row)) (omega arith))

    own : (a b : ℤ) → b ≡ neg_ℤ a → unsigned_abs b < 2 ^ 62 → unsigned_abs a < 2 ^ 64
    own a b g h = omega (arith, ints, g, h)

    wider : (b : ℤ) → unsigned_abs b < 2 ^ 62 → unsigned_abs b < 2 ^ 64
    wider b h = omega (arith, h)

    constant_small : (k : ℤ) → unsigned_abs (pos 1 -ℤ k) < 2 ^ 62 → unsigned_abs k < 2 ^ 64
    constant_small k h = omega (arith, ints, h)

pair_short : (n i : ℕ) → AreShort (unit n i ++ pos 1 ∷ [])
pair_short n i j l = at_of (IsWithin 62) (unit n i ++ pos 1 ∷ []) (pos 0) (All-push (IsWithin 62) (unit n i) (pos 1) (unit-narrow n i) (omega arith)) j l

-- a row of the rows of a place is shown
pub own_showing : (n : ℕ) (marks : List Bool) (kept seen : List Linear) (row : Linear) (place count : ℕ) (pair all : List ℤ) → IsNarrowRow (denial row) → seen ≡ kept → (place < length seen) × (get_or seen place row ≡ row) → count ≡ length kept → pair ≡ unit count place ++ pos 1 ∷ [] → all ≡ stretched marks pair → IsShowing n marks kept row all
own_showing n marks kept seen row place count pair all narrow e h c p a =
    let here = subst (λ k. (place < length k) × (get_or k place row ≡ row)) e h in record {
      narrow = narrow;
      short = subst (λ m. AreShort m) (sym (a ∙ ap (λ m. stretched marks m) p)) (stretched_short marks (unit count place ++ pos 1 ∷ []) (pair_short count place));
      multipliers = unit (length kept) place ++ pos 1 ∷ [];
      refutes = pair_refutes n kept place row here.0 here.1 narrow;
      stretch = a ∙ ap (λ m. stretched marks m) (p ∙ ap (λ k. unit k place ++ pos 1 ∷ []) c);
    }
