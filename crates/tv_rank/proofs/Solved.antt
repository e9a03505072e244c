use Rattle.std.proofs.Common.{◌≡◌, inl, inr, ℕ, zero, suc, ◌+◌, ◌*◌, ◌<◌, List, [], ◌∷◌, ◌++◌, length, length-append, map, get_or, Option, None, Some, Bool, true, false, ◌==◌, if◌then◌else◌, arith, refl, sym, ap, ◌∙◌, ℤ, pos, neg_ℤ, ◌+ℤ◌, ◌-ℤ◌, ◌*ℤ◌}
use Rattle.std.proofs.lemmas.Int.{ints}
use Rattle.std.specs.List.{AllByRecursion}
use Rattle.std.proofs.Math.IntN.{*ℤ_comm}
use Rattle.tv_linear.proofs.PlainLists.{get_or-zeros, length-zeros}
use Rattle.tv_linear.proofs.Ring.{neg_times_z}
use Rattle.tv_linear.specs.Arithmetic.{constant_row}
use Rattle.tv_linear.specs.Linear.{Linear, columns}
use Rattle.tv_linear.specs.Known.{Term, kept, put, number, given, composed, known_number, term_number, place_sum}
use Rattle.tv_linear.specs.Terms.{table, update_of, terms_after}
use Rattle.tv_linear.proofs.ListLaws.{map-table, same_or_below}
use Rattle.tv_refute.proofs.Places.{get_or-left, get_or-right, unit_same, unit_other}
use Rattle.tv_simplex.specs.Sums.{total}
use Rattle.tv_simplex.specs.Systems.{entry_at}
use Rattle.tv_simplex.specs.Outcomes.{IsSolutionOf}
use Rattle.tv_simplex.proofs.Sums.{total-same, total-less, total-zero}
use Rattle.tv_simplex.proofs.Ring.{times_less, less_times}
use Rattle.tv_rank.specs.declared.unknown.Identity.{Identity}
use Rattle.tv_rank.specs.declared.unknown.Identity.TheVariants.{Step, Bound}
use Rattle.tv_rank.specs.declared.unknown.Unknown.{Unknown}
use Rattle.tv_rank.specs.declared.unknown.Unknown.TheVariants.{Positive, Negative, Multiplier, Slack}
use Rattle.tv_rank.specs.declared.unknown.Line.{Line}
use Rattle.tv_rank.specs.Ways.{Way, met_rows, touches}
use Rattle.tv_rank.specs.RankingSystem.{unit_at, number_of, after, entered, left, term_entry, entry, right_of, pairs_below, term_unknowns, terms_below, multipliers_below, identity_unknowns, steps_below, unknowns, lines, step_lines, identity_lines, ranking_system}
use Rattle.tv_rank.specs.Reading.{difference, differences, term_read, read_at}
use Rattle.tv_rank.proofs.Over.{over, Inside, over-same, over-less, over-zero, if_true, if_false, picked, if_times, opposite_is}
use Rattle.tv_rank.proofs.UnknownLists.{all_first, all_second, all_by_place, of_lines, of_step_lines, weighted, weighted-append, weighted-last, weighted-total}
use Rattle.tv_rank.proofs.Barriers.{line, row_of, width, over_put, over_opposite, picked_turned}
use Rattle.tv_rank.proofs.Lengths.{length-pairs, length-multipliers, length-differences}
use Rattle.tv_rank.proofs.Flattened.{entry_of}
use Rattle.std.proofs.lemmas.List.{get_or-map, get_or_past}
use Rattle.tv_farkas.proofs.SystemLemmas.{total-front}
use Rattle.std.proofs.lemmas.Bool.{cases_eq, eq-eqb, ne_eqb, cases_lt}

-- ---- the numbers that are read
pub get-differences : (xs : List ℤ) (s v j : ℕ) → j < v → get_or (differences xs s v) j (pos 0) ≡ difference xs s j
get-differences xs s zero j h = absurd (omega (arith, h))
get-differences xs s (suc v) j h = elim (same_or_below v j h) [
  | inl e ↦ get_or-right (differences xs s v) (difference xs s v ∷ []) j 0 (pos 0) (let l = length-differences xs s v in omega (arith, e, l)) ∙ ap (difference xs s) (sym e)
  | inr b ↦ get_or-left (differences xs s v) (difference xs s v ∷ []) j (pos 0) (let l = length-differences xs s v in omega (arith, b, l)) ∙ get-differences xs s v j b
]

pub pair_product : (x a b : ℤ) → x *ℤ a +ℤ neg_ℤ x *ℤ b ≡ x *ℤ (a -ℤ b)
pair_product x a b = (let t = times_less x a b in let n = neg_times_z x b in omega (arith, ints, t, n))

module _ (g : Unknown → ℤ) (l : ℕ) (x : Option ℕ → ℤ) (positive : (m : Option ℕ) → g (Positive l m) ≡ x m) (negative : (m : Option ℕ) → g (Negative l m) ≡ neg_ℤ (x m)) (xs : List ℤ) (s : ℕ) where
  a_pair : (m : Option ℕ) (v q : ℕ) → q ≡ s + 2 * v → weighted g (Positive l m ∷ Negative l m ∷ []) xs q ≡ x m *ℤ difference xs s v
  a_pair m v q e =
      let a = ap (λ z. get_or xs z (pos 0)) e in
      let b = ap (λ z. get_or xs z (pos 0)) (let f : suc q ≡ s + 2 * v + 1 = omega (arith, e) in f) in
      let p : g (Positive l m) *ℤ get_or xs q (pos 0) ≡ x m *ℤ get_or xs (s + 2 * v) (pos 0) = (λ i. positive m i *ℤ a i) in
      let n : g (Negative l m) *ℤ get_or xs (suc q) (pos 0) ≡ neg_ℤ (x m) *ℤ get_or xs (s + 2 * v + 1) (pos 0) = (λ i. negative m i *ℤ b i) in
      let d = pair_product (x m) (get_or xs (s + 2 * v) (pos 0)) (get_or xs (s + 2 * v + 1) (pos 0)) in
      omega (arith, ints, p, n, d)

  pairs-sum : (v : ℕ) → weighted g (pairs_below l v) xs s ≡ total v (λ j. x (Some j) *ℤ difference xs s j)
  pairs-sum zero = refl
  pairs-sum (suc v) =
      let h = pairs-sum v in
      let a = weighted-append g (pairs_below l v) (Positive l (Some v) ∷ Negative l (Some v) ∷ []) xs s (s + 2 * v) (let e = length-pairs l v in omega (arith, e)) in
      let p = a_pair (Some v) v (s + 2 * v) refl in
      omega (arith, ints, h, a, p)

  pub term-sum : (v : ℕ) → weighted g (term_unknowns v l) xs s ≡ over v (λ m. x m *ℤ number m (term_read v xs s))
  term-sum v =
      let h = pairs-sum v in
      let a = weighted-append g (pairs_below l v) (Positive l None ∷ Negative l None ∷ []) xs s (s + 2 * v) (let e = length-pairs l v in omega (arith, e)) in
      let p = a_pair None v (s + 2 * v) refl in
      let r = total-same v (λ j. x (Some j) *ℤ difference xs s j) (λ j. x (Some j) *ℤ number (Some j) (term_read v xs s)) (λ j k. ap (λ z. x (Some j) *ℤ z) (sym (get-differences xs s v j k))) in
      omega (arith, ints, h, a, p, r)

pub constant-numbers : (v : ℕ) (m : Option ℕ) → number m (constant_row v (pos 0)) ≡ pos 0
constant-numbers v None = refl
constant-numbers v (Some j) = get_or-zeros v j

-- the sum over the numbers of all terms
pub terms-sum : (g : Unknown → ℤ) (x : ℕ → Option ℕ → ℤ) → ((l : ℕ) (m : Option ℕ) → g (Positive l m) ≡ x l m) → ((l : ℕ) (m : Option ℕ) → g (Negative l m) ≡ neg_ℤ (x l m)) → (xs : List ℤ) (ways : ℕ → Way) (many v locations : ℕ) → weighted g (terms_below ways many v locations) xs 0 ≡ total locations (λ l. over v (λ m. x l m *ℤ number m (read_at ways many v xs l)))
terms-sum g x positive negative xs ways many v zero = refl
terms-sum g x positive negative xs ways many v (suc l) =
    let h = terms-sum g x positive negative xs ways many v l in
    let s = length (terms_below ways many v l) in
    let a = weighted-append g (terms_below ways many v l) (if touches ways many l then term_unknowns v l else []) xs 0 s (omega arith) in
    let b = by_touch (touches ways many l) s in
    omega (arith, ints, h, a, b)
  where
    by_touch : (b : Bool) (s : ℕ) → weighted g (if b then term_unknowns v l else []) xs s ≡ over v (λ m. x l m *ℤ number m (if b then term_read v xs s else constant_row v (pos 0)))
    by_touch true s = term-sum g l (x l) (positive l) (negative l) xs s v
    by_touch false s = sym (over-zero v (λ m. x l m *ℤ number m (constant_row v (pos 0))) (λ m k. ap (λ z. x l m *ℤ z) (constant-numbers v m) ∙ omega (arith, ints)))

-- ---- the number of a term in a column
pub unit-number : (v : ℕ) (c : Option ℕ) (f : Linear) → columns f ≡ v → over v (λ m. unit_at m c *ℤ number m f) ≡ number c f
unit-number v None f e = (let z = total-zero v (λ m. pos 0 *ℤ number (Some m) f) (λ m l. omega (arith, ints)) in omega (arith, ints, z))
unit-number v (Some j) f e = elim (cases_lt j v) [
  | inl l ↦ (
      let a = total-same v (λ m. unit_at (Some m) (Some j) *ℤ number (Some m) f) (λ m. if m == j then number (Some m) f else pos 0) (λ m k. if_times (m == j) (number (Some m) f)) in
      let b = picked_turned v j (λ m. number (Some m) f) l in
      omega (arith, ints, a, b))
  | inr p ↦ (
      let a = total-zero v (λ m. unit_at (Some m) (Some j) *ℤ number (Some m) f) (λ m k. if_times (m == j) (number (Some m) f) ∙ if_false (m == j) (number (Some m) f) (pos 0) (ne_eqb m j (λ q. omega (arith, q, k, p)))) in
      let b = get_or_past f.coefficients j (pos 0) (omega (arith, e, p)) in
      omega (arith, ints, a, b))
]

pub of_term_number : (t : Term) (c : Option ℕ) → number_of c t ≡ term_number c t
of_term_number (kept w) None = refl
of_term_number (kept w) (Some j) = elim (cases_eq w j) [
  | inl e ↦ if_true (w == j) (pos 1) (pos 0) (eq-eqb w j e) ∙ unit_same j w (sym e)
  | inr n ↦ if_false (w == j) (pos 1) (pos 0) (ne_eqb w j n) ∙ unit_other j w (λ e. n (sym e))
]
of_term_number (put r) None = refl
of_term_number (put r) (Some j) = refl

place-table : (f : ℕ → ℤ) (v : ℕ) (g : ℕ → ℤ) → place_sum f (table v g) ≡ total v (λ w. f w *ℤ g w)
place-table f zero g = refl
place-table f (suc v) g = (let h = place-table (λ j. f (suc j)) v (λ j. g (suc j)) in let t = total-front v (λ w. f w *ℤ g w) in omega (arith, ints, h, t))

pub after-number : (v : ℕ) (c : Option ℕ) (f : Linear) (w : Way) → over v (λ m. after w.taken m c *ℤ number m f) ≡ known_number (composed (given f) (terms_after v w.taken.updates)) c
after-number v c f w = by_column c
  where
    sum : (c : Option ℕ) → place_sum (λ k. number (Some k) f) (map (term_number c) (terms_after v w.taken.updates)) ≡ total v (λ k. number_of c (update_of w.taken.updates k) *ℤ number (Some k) f)
    sum c =
        ap (place_sum (λ k. number (Some k) f)) (map-table (term_number c) v (update_of w.taken.updates))
        ∙ place-table (λ k. number (Some k) f) v (λ k. term_number c (update_of w.taken.updates k))
        ∙ total-same v (λ k. number (Some k) f *ℤ term_number c (update_of w.taken.updates k)) (λ k. number_of c (update_of w.taken.updates k) *ℤ number (Some k) f) (λ k l. *ℤ_comm (number (Some k) f) (term_number c (update_of w.taken.updates k)) ∙ ap (λ z. z *ℤ number (Some k) f) (sym (of_term_number (update_of w.taken.updates k) c)))

    by_column : (c : Option ℕ) → over v (λ m. after w.taken m c *ℤ number m f) ≡ known_number (composed (given f) (terms_after v w.taken.updates)) c
    by_column None = (let s = sum None in omega (arith, ints, s))
    by_column (Some j) = (let s = sum (Some j) in omega (arith, ints, s))

-- ---- the multipliers and the slack of an identity
multipliers-sum : (g : Unknown → ℤ) (id : Identity) (n : ℕ) (xs : List ℤ) (s : ℕ) → weighted g (multipliers_below id n) xs s ≡ total n (λ i. g (Multiplier id i) *ℤ get_or xs (s + i) (pos 0))
multipliers-sum g id zero xs s = refl
multipliers-sum g id (suc n) xs s =
    let h = multipliers-sum g id n xs s in
    let l = weighted-last g (multipliers_below id n) (Multiplier id n) xs s (s + n) (let e = length-multipliers id n in omega (arith, e)) in
    omega (arith, ints, h, l)

-- what the rows that are met, each times its multiplier, add up to
abbrev pub rows_sum : Way → List ℤ → ℕ → Option ℕ → ℤ
rows_sum w xs s c = total (length (met_rows w)) (λ i. row_of w i c *ℤ get_or xs (s + i) (pos 0))

abbrev pub slack_of : Way → List ℤ → ℕ → ℤ
slack_of w xs s = get_or xs (s + length (met_rows w)) (pos 0)

-- the sum of an identity's unknowns in a row of an identity: of the same one, or of another
identity-sum : (ways : ℕ → Way) (falling : ℕ) (id : Identity) (w : Way) (xs : List ℤ) (s : ℕ) (x : ℕ → ℤ) (u : ℤ) (g : Unknown → ℤ) (b : Bool) → ((i : ℕ) → g (Multiplier id i) ≡ (if b then neg_ℤ (x i) else pos 0)) → g (Slack id) ≡ (if b then u else pos 0) → weighted g (identity_unknowns id w) xs s ≡ (if b then u *ℤ slack_of w xs s -ℤ total (length (met_rows w)) (λ i. x i *ℤ get_or xs (s + i) (pos 0)) else pos 0)
identity-sum ways falling id w xs s x u g b multiplier slack =
    weighted-last g (multipliers_below id n) (Slack id) xs s (s + n) (let e = length-multipliers id n in omega (arith, e))
    ∙ (λ i. (multipliers-sum g id n xs s ∙ total-same n (λ i. g (Multiplier id i) *ℤ get_or xs (s + i) (pos 0)) (λ i. (if b then neg_ℤ (x i) else pos 0) *ℤ get_or xs (s + i) (pos 0)) (λ i l. ap (λ z. z *ℤ get_or xs (s + i) (pos 0)) (multiplier i))) i +ℤ slack i *ℤ get_or xs (s + n) (pos 0))
    ∙ by_test b
  where
    n : ℕ
    n = length (met_rows w)

    by_test : (b : Bool) → (total n (λ i. (if b then neg_ℤ (x i) else pos 0) *ℤ get_or xs (s + i) (pos 0)) +ℤ (if b then u else pos 0) *ℤ get_or xs (s + n) (pos 0)) ≡ (if b then u *ℤ slack_of w xs s -ℤ total n (λ i. x i *ℤ get_or xs (s + i) (pos 0)) else pos 0)
    by_test true =
        let a = total-same n (λ i. neg_ℤ (x i) *ℤ get_or xs (s + i) (pos 0)) (λ i. pos 0 -ℤ x i *ℤ get_or xs (s + i) (pos 0)) (λ i l. neg_times_z (x i) (get_or xs (s + i) (pos 0)) ∙ opposite_is (x i *ℤ get_or xs (s + i) (pos 0))) in
        let d = total-less n (λ i. pos 0) (λ i. x i *ℤ get_or xs (s + i) (pos 0)) in
        let z = total-zero n (λ i. pos 0) (λ i l. refl) in
        omega (arith, ints, a, d, z)
    by_test false =
        let z = total-zero n (λ i. pos 0 *ℤ get_or xs (s + i) (pos 0)) (λ i l. omega (arith, ints)) in
        omega (arith, ints, z)

steps-sum : (g : Unknown → ℤ) (ways : ℕ → Way) (m : ℕ) (xs : List ℤ) (s : ℕ) → weighted g (steps_below ways m) xs s ≡ total m (λ k. weighted g (identity_unknowns (Step k) (ways k)) xs (s + length (steps_below ways k)))
steps-sum g ways zero xs s = refl
steps-sum g ways (suc m) xs s =
    let h = steps-sum g ways m xs s in
    let a = weighted-append g (steps_below ways m) (identity_unknowns (Step m) (ways m)) xs s (s + length (steps_below ways m)) refl in
    omega (arith, ints, h, a)

-- the term of one location out of the sum over all
pub one_term : (v n t : ℕ) (a : Option ℕ → ℤ) (f : ℕ → Option ℕ → ℤ) → t < n → total n (λ l. over v (λ m. (if t == l then a m else pos 0) *ℤ f l m)) ≡ over v (λ m. a m *ℤ f t m)
one_term v n t a f h = total-same n (λ l. over v (λ m. (if t == l then a m else pos 0) *ℤ f l m)) (λ l. if t == l then over v (λ m. a m *ℤ f l m) else pos 0) (λ l k. over_put (t == l) v a (f l)) ∙ picked n t (λ l. over v (λ m. a m *ℤ f l m)) h

module _ (v locations many : ℕ) (ways : ℕ → Way) (falling : ℕ) (falling_in : falling < many) (xs : List ℤ) where
  abbrev pub base : ℕ
  base = length (terms_below ways many v locations)

  abbrev pub step_start : ℕ → ℕ
  step_start k = base + length (steps_below ways k)

  abbrev pub term : ℕ → Linear
  term l = read_at ways many v xs l

  pub term_width : (l : ℕ) → columns (term l) ≡ v
  term_width l = by_touch (touches ways many l) (length (terms_below ways many v l))
    where
      by_touch : (b : Bool) (s : ℕ) → columns (if b then term_read v xs s else constant_row v (pos 0)) ≡ v
      by_touch true s = length-differences xs s v
      by_touch false s = length-zeros v

  apart : (g : Unknown → ℤ) → weighted g (unknowns ways many falling v locations) xs 0 ≡ weighted g (terms_below ways many v locations) xs 0 +ℤ weighted g (steps_below ways many) xs base +ℤ weighted g (identity_unknowns Bound (ways falling)) xs (step_start many)
  apart g =
      let a = weighted-append g (terms_below ways many v locations ++ steps_below ways many) (identity_unknowns Bound (ways falling)) xs 0 (step_start many) (let e = length-append (terms_below ways many v locations) (steps_below ways many) in omega (arith, e)) in
      let b = weighted-append g (terms_below ways many v locations) (steps_below ways many) xs 0 base (omega arith) in
      omega (arith, ints, a, b)

  -- the left side less the right side of an identity, at what is read
  pub step_sum : (k : ℕ) (c : Option ℕ) → k < many → (ways k).taken.from < locations → (ways k).taken.to < locations → weighted (entry ways falling (line (Step k) c)) (unknowns ways many falling v locations) xs 0 ≡ (known_number (composed (given (term (ways k).taken.to)) (terms_after v (ways k).taken.updates)) c -ℤ number c (term (ways k).taken.from)) +ℤ (unit_at None c *ℤ slack_of (ways k) xs (step_start k) -ℤ rows_sum (ways k) xs (step_start k) c)
  step_sum k c k_in from_in to_in =
      let g = entry ways falling (line (Step k) c) in
      let a = apart g in
      let t = terms-sum g (λ l m. term_entry (ways k).taken l m (Step k) c) (λ l m. refl) (λ l m. refl) xs ways many v locations in
      let s = steps-sum g ways many xs base
      ∙ total-same many (λ j. weighted g (identity_unknowns (Step j) (ways j)) xs (step_start j)) (λ j. if j == k then block j else pos 0) (λ j l. identity-sum ways falling (Step j) (ways j) xs (step_start j) (λ i. row_of (ways k) i c) (unit_at None c) g (j == k) (λ i. refl) refl)
      ∙ picked_turned many k block k_in in
      let b = identity-sum ways falling Bound (ways falling) xs (step_start many) (λ i. row_of (ways k) i c) (unit_at None c) g false (λ i. refl) refl in
      let u = total-same locations (λ l. over v (λ m. term_entry (ways k).taken l m (Step k) c *ℤ number m (term l))) (λ l. over v (λ m. entered (ways k).taken l m c *ℤ number m (term l)) -ℤ over v (λ m. left (ways k).taken l m c *ℤ number m (term l))) (λ l q. one l) in
      let d = total-less locations (λ l. over v (λ m. entered (ways k).taken l m c *ℤ number m (term l))) (λ l. over v (λ m. left (ways k).taken l m c *ℤ number m (term l))) in
      let e = one_term v locations (ways k).taken.to (λ m. after (ways k).taken m c) (λ l m. number m (term l)) to_in ∙ after-number v c (term (ways k).taken.to) (ways k) in
      let f = one_term v locations (ways k).taken.from (λ m. unit_at m c) (λ l m. number m (term l)) from_in ∙ unit-number v c (term (ways k).taken.from) (term_width (ways k).taken.from) in
      omega (arith, ints, a, t, s, b, u, d, e, f)
    where
      block : ℕ → ℤ
      block j = unit_at None c *ℤ slack_of (ways j) xs (step_start j) -ℤ total (length (met_rows (ways j))) (λ i. row_of (ways k) i c *ℤ get_or xs (step_start j + i) (pos 0))

      one : (l : ℕ) → over v (λ m. (entered (ways k).taken l m c -ℤ left (ways k).taken l m c) *ℤ number m (term l)) ≡ over v (λ m. entered (ways k).taken l m c *ℤ number m (term l)) -ℤ over v (λ m. left (ways k).taken l m c *ℤ number m (term l))
      one l =
          over-same v (λ m. (entered (ways k).taken l m c -ℤ left (ways k).taken l m c) *ℤ number m (term l)) (λ m. entered (ways k).taken l m c *ℤ number m (term l) -ℤ left (ways k).taken l m c *ℤ number m (term l)) (λ m h. less_times (entered (ways k).taken l m c) (left (ways k).taken l m c) (number m (term l)))
          ∙ over-less v (λ m. entered (ways k).taken l m c *ℤ number m (term l)) (λ m. left (ways k).taken l m c *ℤ number m (term l))

  pub bound_sum : (c : Option ℕ) → (ways falling).taken.from < locations → weighted (entry ways falling (line Bound c)) (unknowns ways many falling v locations) xs 0 ≡ neg_ℤ (number c (term (ways falling).taken.from)) +ℤ (unit_at None c *ℤ slack_of (ways falling) xs (step_start many) -ℤ rows_sum (ways falling) xs (step_start many) c)
  bound_sum c from_in =
      let g = entry ways falling (line Bound c) in
      let a = apart g in
      let t = terms-sum g (λ l m. term_entry (ways falling).taken l m Bound c) (λ l m. refl) (λ l m. refl) xs ways many v locations in
      let s = steps-sum g ways many xs base ∙ total-zero many (λ j. weighted g (identity_unknowns (Step j) (ways j)) xs (step_start j)) (λ j l. identity-sum ways falling (Step j) (ways j) xs (step_start j) (λ i. row_of (ways falling) i c) (unit_at None c) g false (λ i. refl) refl) in
      let b = identity-sum ways falling Bound (ways falling) xs (step_start many) (λ i. row_of (ways falling) i c) (unit_at None c) g true (λ i. refl) refl in
      let u = total-same locations (λ l. over v (λ m. neg_ℤ (left (ways falling).taken l m c) *ℤ number m (term l))) (λ l. pos 0 -ℤ over v (λ m. left (ways falling).taken l m c *ℤ number m (term l))) (λ l q. over_opposite v (λ m. left (ways falling).taken l m c) (λ m. number m (term l)) ∙ opposite_is (over v (λ m. left (ways falling).taken l m c *ℤ number m (term l)))) in
      let d = total-less locations (λ l. pos 0) (λ l. over v (λ m. left (ways falling).taken l m c *ℤ number m (term l))) in
      let z = total-zero locations (λ l. pos 0) (λ l q. refl) in
      let f = one_term v locations (ways falling).taken.from (λ m. unit_at m c) (λ l m. number m (term l)) from_in ∙ unit-number v c (term (ways falling).taken.from) (term_width (ways falling).taken.from) in
      omega (arith, ints, a, t, s, b, u, d, z, f)

  -- ---- the equations of a solution
  module _ (scale : ℤ) (h : IsSolutionOf (ranking_system ways many falling v locations) xs scale) where
    abbrev Equals : Line → Type 0
    Equals x = weighted (entry ways falling x) (unknowns ways many falling v locations) xs 0 ≡ scale *ℤ right_of falling x.identity x.column

    row_is : (k : ℕ) → k < length (lines ways many falling v) → Equals (get_or (lines ways many falling v) k (line Bound None))
    row_is k l =
        let x = get_or (lines ways many falling v) k (line Bound None) in
        let us = unknowns ways many falling v locations in
        sym (weighted-total (entry ways falling x) us xs 0)
        ∙ total-same (length us) (λ j. get_or (map (entry ways falling x) us) j (pos 0) *ℤ get_or xs (0 + j) (pos 0)) (λ j. entry_at (ranking_system ways many falling v locations) k j *ℤ get_or xs j (pos 0)) (λ j g. (λ i. (get_or-map (entry ways falling x) us j (Slack Bound) (pos 0) g ∙ sym (entry_of v locations many ways falling falling_in xs k j l g)) i *ℤ get_or xs (plain j i) (pos 0)))
        ∙ h.met k l
        ∙ ap (λ z. scale *ℤ z) (get_or-map (λ y. right_of falling y.identity y.column) (lines ways many falling v) k (line Bound None) (pos 0) l)
      where
        plain : (j : ℕ) → 0 + j ≡ j
        plain j = omega arith

    each_row : AllByRecursion Equals (lines ways many falling v)
    each_row = all_by_place Equals (lines ways many falling v) (line Bound None) row_is

    pub step_row : (k : ℕ) (c : Option ℕ) → k < many → Inside (width v (ways k)) c → Equals (line (Step k) c)
    step_row k c k_in c_in = of_lines Equals v (Step k) (ways k) c (of_step_lines Equals ways v many k (all_first Equals (step_lines ways v many) (identity_lines v Bound (ways falling)) each_row) k_in) c_in

    pub bound_row_is : (c : Option ℕ) → Inside (width v (ways falling)) c → Equals (line Bound c)
    bound_row_is c c_in = of_lines Equals v Bound (ways falling) c (all_second Equals (step_lines ways v many) (identity_lines v Bound (ways falling)) each_row) c_in
