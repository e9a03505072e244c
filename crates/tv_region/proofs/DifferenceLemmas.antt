-- Differences: what is made of them is a difference too.
use Rattle.std.proofs.Common.{◌≡◌, ◌⊎◌, inl, inr, ℕ, zero, suc, ◌+◌, ◌<◌, List, [], ◌∷◌, length, map, take, refl, sym, ap, ◌∙◌, subst, arith, ℤ, pos, negsuc, neg_ℤ, ◌+ℤ◌, ◌-ℤ◌, ◌*ℤ◌, ◌≤ℤ◌, Option, None, Some, slice_index_or, Bool, true, false}
use Rattle.std.specs.Prelude.{◌<ℤ◌, ◌==◌, All, if◌then◌else◌}
use Rattle.std.proofs.lemmas.Int.{ints}
use Rattle.std.proofs.lemmas.List.Elements.{All-head, All-tail}
use Rattle.tv_linear.specs.Linear.{Linear, columns}
use Rattle.tv_linear.specs.Arithmetic.{zeros, unit, plus_each, scaled, denial, combined}
use Rattle.tv_linear.specs.Known.{Term, put}
use Rattle.tv_linear.specs.Terms.{table, update_of}
use Rattle.tv_linear.specs.Tight.{tight, IsTightened}
use Rattle.tv_linear.specs.declared.region.Update.{Update}
use Rattle.tv_linear.proofs.Tightened.{tight-tightened}
use Rattle.tv_cases.specs.LinearCases.{LinearCase}
use Rattle.tv_cases.specs.Before.{term_row, before}
use Rattle.tv_region.specs.Met.{Has}
use Rattle.tv_region.specs.Made.{Place, at_place, over_draws, Made, of_given, of_guard, of_denial, of_tight, of_before, of_sum, of_shortened, of_settled, last_of, shortened, cancelled, IsOpposite}
use Rattle.tv_region.specs.Draws.{Drawn, drawn_one, drawn_sum, drawn_short}
use Rattle.tv_region.specs.Differences.{coefficient, IsDifference, IsShift, IsCaseOfDifferences}
use Rattle.tv_region.proofs.SumLemmas.{multiples_are}
use Rattle.tv_linear.proofs.ListLaws.{same_or_below}

-- ---- numbers by column
-- 1 in the one column, 0 elsewhere
abbrev pub unit_number : ℕ → ℕ → ℤ
unit_number zero zero = pos 1
unit_number zero (suc v) = pos 0
unit_number (suc j) zero = pos 0
unit_number (suc j) (suc v) = unit_number j v

abbrev pub unit_of : Option ℕ → ℕ → ℤ
unit_of None j = pos 0
unit_of (Some p) j = unit_number j p

unit_cases : (j p : ℕ) → ((j ≡ p) × (unit_number j p ≡ pos 1)) ⊎ ((j ≡ p → ⊥) × (unit_number j p ≡ pos 0))
unit_cases zero zero = inl (refl, refl)
unit_cases zero (suc p) = inr (λ e. cc, refl)
unit_cases (suc j) zero = inr (λ e. cc, refl)
unit_cases (suc j) (suc p) = elim (unit_cases j p) [ inl w ↦ inl (ap suc w.0, w.1) | inr w ↦ inr (λ e. w.0 cc, w.1) ]

unit_either : (p : Option ℕ) (j : ℕ) → (unit_of p j ≡ pos 0) ⊎ (unit_of p j ≡ pos 1)
unit_either None j = inl refl
unit_either (Some p) j = elim (unit_cases j p) [ inl u ↦ inr u.1 | inr u ↦ inl u.1 ]

unit_range : (p : Option ℕ) (j : ℕ) → (pos 0 ≤ℤ unit_of p j) × (unit_of p j ≤ℤ pos 1)
unit_range p j = elim (unit_either p j) [
  | inl e ↦ (omega (arith, ints, e), omega (arith, ints, e))
  | inr e ↦ (omega (arith, ints, e), omega (arith, ints, e))
]

-- a unit that is 1 in column n is that of column n
unit_is : (p : Option ℕ) (n : ℕ) → pos 1 ≤ℤ unit_of p n → (j : ℕ) → unit_of p j ≡ unit_number j n
unit_is None n h j = absurd (omega (arith, ints, h))
unit_is (Some p) n h j = elim (unit_cases n p) [ inl w ↦ ap (λ x. unit_number j x) (sym w.0) | inr w ↦ absurd (let e = w.1 in omega (arith, ints, e, h)) ]

unit_one : (p : Option ℕ) (i j : ℕ) → unit_of p i ≡ pos 1 → unit_of p j ≡ pos 1 → i ≡ j
unit_one None i j h k = absurd (omega (arith, ints, h))
unit_one (Some p) i j h k =
    elim (unit_cases i p) [
      | inr u ↦ absurd (let e = u.1 in omega (arith, ints, e, h))
      | inl u ↦ elim (unit_cases j p) [ inl v ↦ u.0 ∙ sym v.0 | inr v ↦ absurd (let e = v.1 in omega (arith, ints, e, k)) ]
    ]

-- ---- a column less a column
record IsSpread (f : ℕ → ℤ) : Type 0 where
  added : Option ℕ
  taken_off : Option ℕ
  are : (j : ℕ) → f j ≡ unit_of added j -ℤ unit_of taken_off j

-- the place of the one number z, or none
record IsFound (f : ℕ → ℤ) (z : ℤ) : Type 0 where
  place : Option ℕ
  here : (j : ℕ) → f j ≡ z → unit_of place j ≡ pos 1
  away : (j : ℕ) → (f j ≡ z → ⊥) → unit_of place j ≡ pos 0

search_below : (f : ℕ → ℤ) (z : ℤ) → ((j : ℕ) → (f j ≡ z) ⊎ (f j ≡ z → ⊥)) → (n : ℕ) → ((p : ℕ) × (f p ≡ z)) ⊎ ((j : ℕ) → j < n → f j ≡ z → ⊥)
search_below f z d zero = inr (λ j h. absurd (omega arith))
search_below f z d (suc n) =
    elim (search_below f z d n) [
      | inl w ↦ inl w
      | inr none ↦ elim (d n) [
        | inl here ↦ inl (n, here)
        | inr not_here ↦ inr (λ j h e. elim (same_or_below n j h) [ inl same ↦ not_here (subst (λ x. f x ≡ z) same e) | inr less ↦ none j less e ])
      ]
    ]

found : (f : ℕ → ℤ) (z : ℤ) (n : ℕ) → ((j : ℕ) → (f j ≡ z) ⊎ (f j ≡ z → ⊥)) → ((j : ℕ) → f j ≡ z → j < n) → ((i j : ℕ) → f i ≡ z → f j ≡ z → i ≡ j) → IsFound f z
found f z n d bound one =
    elim (search_below f z d n) [
      | inl w ↦ record {
        place = Some w.0;
        here = λ j h. elim (unit_cases j w.0) [ inl u ↦ u.1 | inr u ↦ absurd (u.0 (one j w.0 h w.1)) ];
        away = λ j h. elim (unit_cases j w.0) [ inl u ↦ absurd (h (subst (λ x. f x ≡ z) (sym u.0) w.1)) | inr u ↦ u.1 ];
      }
      | inr none ↦ record { place = None; here = λ j h. absurd (none j (bound j h) h); away = λ j h. refl }
    ]

inside : (cs : List ℤ) (j : ℕ) (z : ℤ) → (z ≡ pos 0 → ⊥) → slice_index_or cs j (pos 0) ≡ z → j < length cs
inside [] j z n e = absurd (n (sym e))
inside (c ∷ cs) zero z n e = omega arith
inside (c ∷ cs) (suc j) z n e = let h = inside cs j z n e in omega arith

is_or_not : (a z : ℤ) → (a ≡ pos 0) ⊎ ((a ≡ pos 1) ⊎ (a ≡ negsuc 0)) → (z ≡ pos 1) ⊎ (z ≡ negsuc 0) → (a ≡ z) ⊎ (a ≡ z → ⊥)
is_or_not a z (inl e) (inl k) = inr (λ h. omega (arith, ints, e, k, h))
is_or_not a z (inl e) (inr k) = inr (λ h. omega (arith, ints, e, k, h))
is_or_not a z (inr (inl e)) (inl k) = inl (e ∙ sym k)
is_or_not a z (inr (inl e)) (inr k) = inr (λ h. omega (arith, ints, e, k, h))
is_or_not a z (inr (inr e)) (inl k) = inr (λ h. omega (arith, ints, e, k, h))
is_or_not a z (inr (inr e)) (inr k) = inl (e ∙ sym k)

spread_of : (r : Linear) → IsDifference r → IsSpread (coefficient r)
spread_of r h =
    let up = found (coefficient r) (pos 1) (length r.coefficients) (λ j. is_or_not (coefficient r j) (pos 1) (h.each j) (inl refl)) (λ j e. inside r.coefficients j (pos 1) (λ k. omega (arith, ints, k)) e) h.one_added in
    let down = found (coefficient r) (negsuc 0) (length r.coefficients) (λ j. is_or_not (coefficient r j) (negsuc 0) (h.each j) (inr refl)) (λ j e. inside r.coefficients j (negsuc 0) (λ k. omega (arith, ints, k)) e) h.one_taken_off in
    record {
      added = up.place;
      taken_off = down.place;
      are = λ j. elim (h.each j) [
        | inl e ↦ (let a = up.away j (λ k. omega (arith, ints, e, k)) in let b = down.away j (λ k. omega (arith, ints, e, k)) in omega (arith, ints, e, a, b))
        | inr w ↦ elim w [
          | inl e ↦ (let a = up.here j e in let b = down.away j (λ k. omega (arith, ints, e, k)) in omega (arith, ints, e, a, b))
          | inr e ↦ (let a = up.away j (λ k. omega (arith, ints, e, k)) in let b = down.here j e in omega (arith, ints, e, a, b))
        ]
      ];
    }

difference_of : (r : Linear) → IsSpread (coefficient r) → IsDifference r
difference_of r d = record {
  each = λ j.
      let e = d.are j in
      elim (unit_either d.added j) [
        | inl a ↦ elim (unit_either d.taken_off j) [ inl b ↦ inl (omega (arith, ints, e, a, b)) | inr b ↦ inr (inr (omega (arith, ints, e, a, b))) ]
        | inr a ↦ elim (unit_either d.taken_off j) [ inl b ↦ inr (inl (omega (arith, ints, e, a, b))) | inr b ↦ inl (omega (arith, ints, e, a, b)) ]
      ];
  one_added = λ i j h g.
      let e = d.are i in
      let f = d.are j in
      let a = (unit_range d.added i).1 in
      let b = (unit_range d.taken_off i).0 in
      let c = (unit_range d.added j).1 in
      let l = (unit_range d.taken_off j).0 in
      unit_one d.added i j (omega (arith, ints, e, h, a, b)) (omega (arith, ints, f, g, c, l));
  one_taken_off = λ i j h g.
      let e = d.are i in
      let f = d.are j in
      let a = (unit_range d.added i).0 in
      let b = (unit_range d.taken_off i).1 in
      let c = (unit_range d.added j).0 in
      let l = (unit_range d.taken_off j).1 in
      unit_one d.taken_off i j (omega (arith, ints, e, h, a, b)) (omega (arith, ints, f, g, c, l));
}

same_numbers : (r s : Linear) → ((j : ℕ) → coefficient s j ≡ coefficient r j) → IsDifference r → IsDifference s
same_numbers r s e h = record {
  each = λ j. subst (λ z. (z ≡ pos 0) ⊎ ((z ≡ pos 1) ⊎ (z ≡ negsuc 0))) (sym (e j)) (h.each j);
  one_added = λ i j a b. h.one_added i j (sym (e i) ∙ a) (sym (e j) ∙ b);
  one_taken_off = λ i j a b. h.one_taken_off i j (sym (e i) ∙ a) (sym (e j) ∙ b);
}

-- ---- numbers of rows that are made
pub number-neg : (cs : List ℤ) (j : ℕ) → slice_index_or (map neg_ℤ cs) j (pos 0) ≡ neg_ℤ (slice_index_or cs j (pos 0))
number-neg [] j = refl
number-neg (c ∷ cs) zero = refl
number-neg (c ∷ cs) (suc j) = number-neg cs j

number-times : (z : ℤ) (cs : List ℤ) (j : ℕ) → slice_index_or (map (λ c. z *ℤ c) cs) j (pos 0) ≡ z *ℤ slice_index_or cs j (pos 0)
number-times z [] j = grind (arith, ints)
number-times z (c ∷ cs) zero = refl
number-times z (c ∷ cs) (suc j) = number-times z cs j

number-plus : (xs ys : List ℤ) (j : ℕ) → slice_index_or (plus_each xs ys) j (pos 0) ≡ slice_index_or xs j (pos 0) +ℤ slice_index_or ys j (pos 0)
number-plus [] ys j = omega (arith, ints)
number-plus (x ∷ xs) [] j = omega (arith, ints)
number-plus (x ∷ xs) (y ∷ ys) zero = refl
number-plus (x ∷ xs) (y ∷ ys) (suc j) = number-plus xs ys j

number-zeros : (n j : ℕ) → slice_index_or (zeros n) j (pos 0) ≡ pos 0
number-zeros zero j = refl
number-zeros (suc n) zero = refl
number-zeros (suc n) (suc j) = number-zeros n j

number-taken : (n : ℕ) (cs : List ℤ) (j : ℕ) → (slice_index_or (take n cs) j (pos 0) ≡ pos 0) ⊎ (slice_index_or (take n cs) j (pos 0) ≡ slice_index_or cs j (pos 0))
number-taken zero cs j = inl refl
number-taken (suc n) [] j = inl refl
number-taken (suc n) (c ∷ cs) zero = inr refl
number-taken (suc n) (c ∷ cs) (suc j) = number-taken n cs j

-- the sum of the numbers of rows in a column, each times its factor
abbrev weighted : (ℕ → ℤ) → List Linear → ℕ → ℤ
weighted f [] j = pos 0
weighted f (t ∷ ts) j = f 0 *ℤ coefficient t j +ℤ weighted (λ v. f (suc v)) ts j

no_weight : (f : ℕ → ℤ) (ts : List Linear) (j : ℕ) → ((v : ℕ) → f v ≡ pos 0) → weighted f ts j ≡ pos 0
no_weight f [] j h = refl
no_weight f (t ∷ ts) j h =
    let later = no_weight (λ v. f (suc v)) ts j (λ v. h (suc v)) in
    let here = ap (λ z. z *ℤ coefficient t j) (h 0) in
    omega (arith, ints, later, here)

number-combined : (w : ℕ) (cs : List ℤ) (ts : List Linear) (j : ℕ) → coefficient (combined w cs ts) j ≡ weighted (λ v. slice_index_or cs v (pos 0)) ts j
number-combined w [] ts j = number-zeros w j ∙ sym (no_weight (λ v. pos 0) ts j (λ v. refl))
number-combined w (c ∷ cs) [] j = number-zeros w j
number-combined w (c ∷ cs) (t ∷ ts) j =
    number-plus (scaled c t).coefficients (combined w cs ts).coefficients j
    ∙ (λ i. number-times c t.coefficients j i +ℤ number-combined w cs ts j i)

-- ---- denials, tightened rows, rows without columns
pub denial_difference : (r : Linear) → IsDifference r → IsDifference (denial r)
denial_difference r h =
    let d = spread_of r h in
    difference_of (denial r) record {
      added = d.taken_off;
      taken_off = d.added;
      are = λ j. (let e = d.are j in let n = number-neg r.coefficients j in omega (arith, ints, e, n));
    }

divided_unit : (d : ℕ) (r t : ℤ) → 0 < d → r ≡ pos d *ℤ t → (r ≡ pos 0) ⊎ ((r ≡ pos 1) ⊎ (r ≡ negsuc 0)) → t ≡ r
divided_unit zero r t h e u = absurd (omega arith)
divided_unit (suc d) r (pos zero) h e u = grind (arith, ints)
divided_unit (suc d) r (pos (suc t)) h e (inl u) = absurd (grind (arith, ints))
divided_unit (suc d) r (pos (suc t)) h e (inr (inl u)) = by_size d t (e ∙ refl) u where
  by_size : (d t : ℕ) → r ≡ pos (suc d) *ℤ pos (suc t) → r ≡ pos 1 → pos (suc t) ≡ r
  by_size zero zero e u = sym u
  by_size zero (suc t) e u = absurd (omega (arith, ints, e, u))
  by_size (suc d) t e u = absurd (grind (arith, ints))
divided_unit (suc d) r (pos (suc t)) h e (inr (inr u)) = absurd (grind (arith, ints))
divided_unit (suc d) r (negsuc t) h e (inl u) = absurd (grind (arith, ints))
divided_unit (suc d) r (negsuc t) h e (inr (inl u)) = absurd (grind (arith, ints))
divided_unit (suc d) r (negsuc t) h e (inr (inr u)) = by_size d t (e ∙ refl) u where
  by_size : (d t : ℕ) → r ≡ pos (suc d) *ℤ negsuc t → r ≡ negsuc 0 → negsuc t ≡ r
  by_size zero zero e u = sym u
  by_size zero (suc t) e u = absurd (omega (arith, ints, e, u))
  by_size (suc d) t e u = absurd (grind (arith, ints))

tight_by : (r : Linear) → IsDifference r → IsTightened r (tight r) → IsDifference (tight r)
tight_by r h (inl k) = subst IsDifference (sym k.same) h
tight_by r h (inr (d, k)) = same_numbers r (tight r) (λ j. divided_unit d (coefficient r j) (coefficient (tight r) j) k.positive (ap (λ cs. slice_index_or cs j (pos 0)) k.coefficients ∙ number-times (pos d) (tight r).coefficients j) (h.each j)) h

pub tight_difference : (r : Linear) → IsDifference r → IsDifference (tight r)
tight_difference r h = tight_by r h (tight-tightened r (tight r) refl)

pub shortened_difference : (n : ℕ) (r : Linear) → IsDifference r → IsDifference (shortened n r)
shortened_difference n r h = record {
  each = λ j. elim (number-taken n r.coefficients j) [ inl e ↦ inl e | inr e ↦ subst (λ z. (z ≡ pos 0) ⊎ ((z ≡ pos 1) ⊎ (z ≡ negsuc 0))) (sym e) (h.each j) ];
  one_added = λ i j a b. h.one_added i j (was i (pos 1) (λ k. omega (arith, ints, k)) a) (was j (pos 1) (λ k. omega (arith, ints, k)) b);
  one_taken_off = λ i j a b. h.one_taken_off i j (was i (negsuc 0) (λ k. omega (arith, ints, k)) a) (was j (negsuc 0) (λ k. omega (arith, ints, k)) b);
}
  where
    was : (i : ℕ) (z : ℤ) → (z ≡ pos 0 → ⊥) → coefficient (shortened n r) i ≡ z → coefficient r i ≡ z
    was i z k e = elim (number-taken n r.coefficients i) [ inl a ↦ absurd (k (sym e ∙ a)) | inr a ↦ sym a ∙ e ]

-- ---- sums
pub above_is_one : (n : ℕ) (r : Linear) → pos 0 <ℤ last_of n r → IsDifference r → last_of n r ≡ pos 1
above_is_one n r h d = elim (d.each n) [
  | inl e ↦ absurd (omega (arith, ints, e, h))
  | inr w ↦ elim w [ inl e ↦ e | inr e ↦ absurd (omega (arith, ints, e, h)) ]
]

below_is_minus : (n : ℕ) (r : Linear) → last_of n r <ℤ pos 0 → IsDifference r → last_of n r ≡ negsuc 0
below_is_minus n r h d = elim (d.each n) [
  | inl e ↦ absurd (omega (arith, ints, e, h))
  | inr w ↦ elim w [ inl e ↦ absurd (omega (arith, ints, e, h)) | inr e ↦ e ]
]

one_divided : (d : ℕ) (z : ℤ) → 0 < d → pos 1 ≡ pos d *ℤ z → z ≡ pos 1
one_divided d z h e = divided_unit d (pos 1) z h e (inr (inl refl))

pub sum_difference : (n : ℕ) (p q : Linear) → IsOpposite n p q → IsDifference p → IsDifference q → IsDifference (cancelled n p q)
sum_difference n p q o h k =
    let m = multiples_are n p q o in
    let pn = above_is_one n p o.above h in
    let qn = below_is_minus n q o.below k in
    let first = m.first in
    let up = one_divided m.divisor m.up m.positive (omega (arith, ints, first, qn)) in
    let down = one_divided m.divisor m.down m.positive (sym pn ∙ m.second) in
    let d = spread_of p h in
    let f = spread_of q k in
    difference_of (cancelled n p q) record {
      added = f.added;
      taken_off = d.taken_off;
      are = λ j.
          let here = d.are n in
          let there = f.are n in
          let b = (unit_range d.taken_off n).0 in
          let c = (unit_range f.added n).0 in
          let x = unit_is d.added n (omega (arith, ints, here, pn, b)) j in
          let y = unit_is f.taken_off n (omega (arith, ints, there, qn, c)) j in
          let a = d.are j in
          let e = f.are j in
          let s = ap (λ r. coefficient r j) (λ i. combined (columns p) (m.row i).coefficients (p ∷ q ∷ [])) ∙ number-combined (columns p) (m.up ∷ m.down ∷ []) (p ∷ q ∷ []) j in
          let one = ap (λ z. z *ℤ coefficient p j) up in
          let two = ap (λ z. z *ℤ coefficient q j) down in
          omega (arith, ints, x, y, a, e, s, one, two);
    }

-- ---- rows before a case
-- each row is a column or none, plus a number
data ArePicked : List Linear → List (Option ℕ) → Type 0 where
  picked_none : ArePicked [] []
  picked_more : (t : Linear) (ts : List Linear) (o : Option ℕ) (os : List (Option ℕ)) → ((j : ℕ) → coefficient t j ≡ unit_of o j) → ArePicked ts os → ArePicked (t ∷ ts) (o ∷ os)

abbrev picked : Option ℕ → List (Option ℕ) → Option ℕ
picked None os = None
picked (Some p) [] = None
picked (Some zero) (o ∷ os) = o
picked (Some (suc p)) (o ∷ os) = picked (Some p) os

abbrev less_one : Option ℕ → Option ℕ
less_one None = None
less_one (Some zero) = None
less_one (Some (suc p)) = Some p

unit-less_one : (p : Option ℕ) (v : ℕ) → unit_of p (suc v) ≡ unit_of (less_one p) v
unit-less_one None v = refl
unit-less_one (Some zero) v = refl
unit-less_one (Some (suc p)) v = refl

unit-picked : (p o : Option ℕ) (os : List (Option ℕ)) (j : ℕ) → unit_of (picked p (o ∷ os)) j ≡ unit_of p 0 *ℤ unit_of o j +ℤ unit_of (picked (less_one p) os) j
unit-picked None o os j = grind (arith, ints)
unit-picked (Some zero) o os j = omega (arith, ints)
unit-picked (Some (suc p)) o os j = omega (arith, ints)

none_picked : (p : Option ℕ) → picked p [] ≡ None
none_picked None = refl
none_picked (Some p) = refl

spread_times : (f a b u : ℤ) → f ≡ a -ℤ b → (a ≡ pos 0) ⊎ (a ≡ pos 1) → (b ≡ pos 0) ⊎ (b ≡ pos 1) → f *ℤ u ≡ a *ℤ u -ℤ b *ℤ u
spread_times f a b u e (inl h) (inl k) = let x = ap (λ z. z *ℤ u) (the_zero h k) in let y = ap (λ z. z *ℤ u) h in let w = ap (λ z. z *ℤ u) k in omega (arith, ints, x, y, w) where
  the_zero : a ≡ pos 0 → b ≡ pos 0 → f ≡ pos 0
  the_zero h k = omega (arith, ints, e, h, k)
spread_times f a b u e (inl h) (inr k) = let x = ap (λ z. z *ℤ u) (the_minus h k) in let y = ap (λ z. z *ℤ u) h in let w = ap (λ z. z *ℤ u) k in omega (arith, ints, x, y, w) where
  the_minus : a ≡ pos 0 → b ≡ pos 1 → f ≡ negsuc 0
  the_minus h k = omega (arith, ints, e, h, k)
spread_times f a b u e (inr h) (inl k) = let x = ap (λ z. z *ℤ u) (the_one h k) in let y = ap (λ z. z *ℤ u) h in let w = ap (λ z. z *ℤ u) k in omega (arith, ints, x, y, w) where
  the_one : a ≡ pos 1 → b ≡ pos 0 → f ≡ pos 1
  the_one h k = omega (arith, ints, e, h, k)
spread_times f a b u e (inr h) (inr k) = let x = ap (λ z. z *ℤ u) (the_zero h k) in let y = ap (λ z. z *ℤ u) h in let w = ap (λ z. z *ℤ u) k in omega (arith, ints, x, y, w) where
  the_zero : a ≡ pos 1 → b ≡ pos 1 → f ≡ pos 0
  the_zero h k = omega (arith, ints, e, h, k)

spread_picked : (ts : List Linear) (os : List (Option ℕ)) (f : ℕ → ℤ) (a b : Option ℕ) → ArePicked ts os → ((v : ℕ) → f v ≡ unit_of a v -ℤ unit_of b v) → (j : ℕ) → weighted f ts j ≡ unit_of (picked a os) j -ℤ unit_of (picked b os) j
spread_picked _ _ f a b picked_none h j = (let x = ap (λ o. unit_of o j) (none_picked a) in let y = ap (λ o. unit_of o j) (none_picked b) in omega (arith, ints, x, y))
spread_picked _ _ f a b (picked_more t ts o os e k) h j =
    let later = spread_picked ts os (λ v. f (suc v)) (less_one a) (less_one b) k (λ v. (let w = h (suc v) in let x = unit-less_one a v in let y = unit-less_one b v in omega (arith, ints, w, x, y))) j in
    let here = ap (λ z. f 0 *ℤ z) (e j) ∙ spread_times (f 0) (unit_of a 0) (unit_of b 0) (unit_of o j) (h 0) (unit_either a 0) (unit_either b 0) in
    let x = unit-picked a o os j in
    let y = unit-picked b o os j in
    omega (arith, ints, later, here, x, y)

shift_found : (r : Linear) → IsShift r → (o : Option ℕ) × ((j : ℕ) → coefficient r j ≡ unit_of o j)
shift_found r h =
    let up = found (coefficient r) (pos 1) (length r.coefficients) (λ j. by_case j (h.each j)) (λ j e. inside r.coefficients j (pos 1) (λ k. omega (arith, ints, k)) e) h.one in (
      up.place,
      λ j. elim (h.each j) [
        | inl e ↦ e ∙ sym (up.away j (λ k. omega (arith, ints, e, k)))
        | inr e ↦ e ∙ sym (up.here j e)
      ],
    )
  where
    by_case : (j : ℕ) → (coefficient r j ≡ pos 0) ⊎ (coefficient r j ≡ pos 1) → (coefficient r j ≡ pos 1) ⊎ (coefficient r j ≡ pos 1 → ⊥)
    by_case j (inl e) = inr (λ k. omega (arith, ints, e, k))
    by_case j (inr e) = inl e

unit_found : (n column : ℕ) → (o : Option ℕ) × ((j : ℕ) → slice_index_or (unit n column) j (pos 0) ≡ unit_of o j)
unit_found zero column = (None, λ j. refl)
unit_found (suc n) zero = (Some 0, λ j. first j) where
  first : (j : ℕ) → slice_index_or (unit (suc n) 0) j (pos 0) ≡ unit_of (Some 0) j
  first zero = refl
  first (suc j) = number-zeros n j
unit_found (suc n) (suc column) = let w = unit_found n column in by_place w.0 w.1 where
  by_place : (o : Option ℕ) → ((j : ℕ) → slice_index_or (unit n column) j (pos 0) ≡ unit_of o j) → (o : Option ℕ) × ((j : ℕ) → slice_index_or (unit (suc n) (suc column)) j (pos 0) ≡ unit_of o j)
  by_place None e = (None, λ j. at j) where
    at : (j : ℕ) → slice_index_or (unit (suc n) (suc column)) j (pos 0) ≡ unit_of None j
    at zero = refl
    at (suc j) = e j
  by_place (Some p) e = (Some (suc p), λ j. at j) where
    at : (j : ℕ) → slice_index_or (unit (suc n) (suc column)) j (pos 0) ≡ unit_of (Some (suc p)) j
    at zero = refl
    at (suc j) = e j

term_found : (w : ℕ) (us : List Update) (v : ℕ) → All (λ u. IsShift u.term) us → (o : Option ℕ) × ((j : ℕ) → coefficient (term_row w (update_of us v)) j ≡ unit_of o j)
term_found w [] v h = unit_found w v
term_found w (u ∷ us) v h = by_test (u.variable == v) (shift_found u.term (All-head (λ (x : Update). IsShift x.term) u us h)) (term_found w us v (All-tail (λ (x : Update). IsShift x.term) u us h)) where
  by_test : (t : Bool) → ((o : Option ℕ) × ((j : ℕ) → coefficient u.term j ≡ unit_of o j)) → ((o : Option ℕ) × ((j : ℕ) → coefficient (term_row w (update_of us v)) j ≡ unit_of o j)) → (o : Option ℕ) × ((j : ℕ) → coefficient (term_row w (if t then put u.term else update_of us v)) j ≡ unit_of o j)
  by_test true a b = a
  by_test false a b = b

terms_found : (w n : ℕ) (f : ℕ → Term) → ((v : ℕ) → (o : Option ℕ) × ((j : ℕ) → coefficient (term_row w (f v)) j ≡ unit_of o j)) → (os : List (Option ℕ)) × ArePicked (map (term_row w) (table n f)) os
terms_found w zero f h = ([], picked_none)
terms_found w (suc n) f h =
    let later = terms_found w n (λ v. f (suc v)) (λ v. h (suc v)) in
    ((h 0).0 ∷ later.0, picked_more (term_row w (f 0)) (map (term_row w) (table n (λ v. f (suc v)))) (h 0).0 later.0 (h 0).1 later.1)

pub before_difference : (r : Linear) (c : LinearCase) → IsDifference r → All (λ u. IsShift u.term) c.updates → IsDifference (before r c)
before_difference r c h k =
    let w = columns r + c.draws in
    let terms = terms_found w (columns r) (update_of c.updates) (λ v. term_found w c.updates v k) in
    let d = spread_of r h in
    difference_of (before r c) record {
      added = picked d.added terms.0;
      taken_off = picked d.taken_off terms.0;
      are = λ j.
          number-combined w r.coefficients (map (term_row w) (table (columns r) (update_of c.updates))) j
          ∙ spread_picked (map (term_row w) (table (columns r) (update_of c.updates))) terms.0 (coefficient r) d.added d.taken_off terms.1 d.are j;
    }

-- ---- all that is made of differences
module _ (n : ℕ) (cs : List LinearCase) (G : ℕ → Linear → Type 0) (cases : (c : LinearCase) → Has cs c → IsCaseOfDifferences c) (given : (l : ℕ) (r : Linear) → G l r → IsDifference r) where
  pub made_difference : (p : Place) (h : ℕ) (r : Linear) → Made n cs G p h r → IsDifference r
  made_difference _ h r (of_given _ l _ k) = given l r k
  made_difference _ h r (of_guard _ c _ m k) = (cases c m).guards r k
  made_difference p h _ (of_denial _ _ r w k) = denial_difference r (made_difference p h r k)
  made_difference p h _ (of_tight _ _ r w k) = tight_difference r (made_difference p h r k)
  made_difference _ _ _ (of_before h c r m e w k) = before_difference r c (made_difference (at_place c.to) h r k) (cases c m).updates
  made_difference _ h _ (of_sum _ j c p q o w k m) = sum_difference (n + j) p q o (made_difference (over_draws c (suc j)) h p k) (made_difference (over_draws c (suc j)) h q m)
  made_difference _ h _ (of_shortened _ j c r e k) = shortened_difference (n + j) r (made_difference (over_draws c (suc j)) h r k)
  made_difference _ h r (of_settled _ c _ k) = made_difference (over_draws c 0) h r k

pub drawn_difference : (w : ℕ) (rows : List Linear) → ((r : Linear) → Has rows r → IsDifference r) → (n : ℕ) (r : Linear) → Drawn w rows n r → IsDifference r
drawn_difference w rows h _ r (drawn_one _ k) = h r k
drawn_difference w rows h _ _ (drawn_sum n p q o z f t k m) = tight_difference (shortened n (cancelled n p q)) (shortened_difference n (cancelled n p q) (sum_difference n p q o (drawn_difference w rows h (n + 1) p k) (drawn_difference w rows h (n + 1) q m)))
drawn_difference w rows h _ _ (drawn_short n r z k) = shortened_difference n r (drawn_difference w rows h (n + 1) r k)
