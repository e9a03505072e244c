-- What a solution of the nested system says of the terms and multipliers that are read off it.
use Rattle.std.proofs.Common.{◌≡◌, inl, inr, ℕ, zero, suc, ◌+◌, ◌*◌, ◌<◌, List, [], ◌∷◌, length, map, get_or, Option, None, Some, Bool, true, false, ◌==◌, ◌&&◌, if◌then◌else◌, arith, refl, sym, ap, ◌∙◌, ℤ, pos, neg_ℤ, ◌+ℤ◌, ◌-ℤ◌, ◌*ℤ◌}
use Rattle.std.proofs.lemmas.Int.{ints}
use Rattle.std.proofs.lemmas.List.{get_or-map}
use Rattle.std.proofs.lemmas.Bool.{cases_eq, eq-eqb, ne_eqb}
use Rattle.std.specs.List.{AllByRecursion}
use Rattle.tv_linear.proofs.PlainLists.{length-zeros}
use Rattle.tv_linear.proofs.Ring.{neg_times_z}
use Rattle.tv_linear.specs.Arithmetic.{constant_row}
use Rattle.tv_linear.specs.Falls.{zero_row}
use Rattle.tv_linear.specs.Linear.{Linear, columns}
use Rattle.tv_linear.specs.Known.{number, given, composed, known_number}
use Rattle.tv_linear.specs.Terms.{terms_after}
use Rattle.tv_simplex.specs.Sums.{total}
use Rattle.tv_simplex.specs.Systems.{entry_at}
use Rattle.tv_simplex.specs.Outcomes.{IsSolutionOf}
use Rattle.tv_simplex.proofs.Sums.{total-same, total-less, total-add, total-zero, total-swap}
use Rattle.tv_simplex.proofs.Ring.{less_times}
use Rattle.tv_rank.specs.Ways.{Way, met_rows, touches}
use Rattle.tv_rank.specs.RankingSystem.{unit_at, after, entered, left}
use Rattle.tv_rank.specs.Reading.{difference, term_read}
use Rattle.tv_rank.proofs.Over.{over, Inside, over-same, over-less, over-zero, if_false, picked, opposite_is}
use Rattle.tv_rank.proofs.UnknownLists.{all_by_place, weighted, weighted-append, weighted-last, weighted-total}
use Rattle.tv_rank.proofs.Barriers.{row_of, width, over_opposite, picked_turned}
use Rattle.tv_rank.proofs.Lengths.{length-differences}
use Rattle.tv_rank.proofs.Solved.{get-differences, pair_product, constant-numbers, unit-number, after-number, one_term, rows_sum, slack_of}
use Rattle.tv_nested.specs.declared.unknown.Identity.{Identity}
use Rattle.tv_nested.specs.declared.unknown.Unknown.{Unknown}
use Rattle.tv_nested.specs.declared.unknown.Unknown.TheVariants.{Positive, Negative, Multiplier, Slack}
use Rattle.tv_nested.specs.declared.unknown.Line.{Line}
use Rattle.tv_nested.specs.NestedSystem.{identity, line, term_entry, entry, right_of, pairs_below, term_unknowns, local_unknowns, terms_below, multipliers_below, identity_unknowns, way_unknowns, steps_below, unknowns, lines, nested_system}
use Rattle.tv_nested.specs.Reading.{read_at}
use Rattle.tv_nested.proofs.Balances.{if_both, over_two}
use Rattle.tv_nested.proofs.Barriers.{entry_of}
use Rattle.tv_nested.proofs.Places.{length-pairs, length-local, length-multipliers, length-way, of_lines, of_all_lines}

-- ---- the numbers of the terms
module _ (g : Unknown → ℤ) (l j : ℕ) (x : Option ℕ → ℤ) (positive : (m : Option ℕ) → g (Positive l j m) ≡ x m) (negative : (m : Option ℕ) → g (Negative l j m) ≡ neg_ℤ (x m)) (xs : List ℤ) (s : ℕ) where
  a_pair : (m : Option ℕ) (v q : ℕ) → q ≡ s + 2 * v → weighted g (Positive l j m ∷ Negative l j m ∷ []) xs q ≡ x m *ℤ difference xs s v
  a_pair m v q e =
      let a = ap (λ z. get_or xs z (pos 0)) e in
      let b = ap (λ z. get_or xs z (pos 0)) (let f : suc q ≡ s + 2 * v + 1 = omega (arith, e) in f) in
      let p : g (Positive l j m) *ℤ get_or xs q (pos 0) ≡ x m *ℤ get_or xs (s + 2 * v) (pos 0) = (λ i. positive m i *ℤ a i) in
      let n : g (Negative l j m) *ℤ get_or xs (suc q) (pos 0) ≡ neg_ℤ (x m) *ℤ get_or xs (s + 2 * v + 1) (pos 0) = (λ i. negative m i *ℤ b i) in
      let d = pair_product (x m) (get_or xs (s + 2 * v) (pos 0)) (get_or xs (s + 2 * v + 1) (pos 0)) in
      omega (arith, ints, p, n, d)

  pairs-sum : (v : ℕ) → weighted g (pairs_below l j v) xs s ≡ total v (λ n. x (Some n) *ℤ difference xs s n)
  pairs-sum zero = refl
  pairs-sum (suc v) =
      let h = pairs-sum v in
      let a = weighted-append g (pairs_below l j v) (Positive l j (Some v) ∷ Negative l j (Some v) ∷ []) xs s (s + 2 * v) (let e = length-pairs l j v in omega (arith, e)) in
      let p = a_pair (Some v) v (s + 2 * v) refl in
      omega (arith, ints, h, a, p)

  term-sum : (v : ℕ) → weighted g (term_unknowns v l j) xs s ≡ over v (λ m. x m *ℤ number m (term_read v xs s))
  term-sum v =
      let h = pairs-sum v in
      let a = weighted-append g (pairs_below l j v) (Positive l j None ∷ Negative l j None ∷ []) xs s (s + 2 * v) (let e = length-pairs l j v in omega (arith, e)) in
      let p = a_pair None v (s + 2 * v) refl in
      let r = total-same v (λ n. x (Some n) *ℤ difference xs s n) (λ n. x (Some n) *ℤ number (Some n) (term_read v xs s)) (λ n k. ap (λ z. x (Some n) *ℤ z) (sym (get-differences xs s v n k))) in
      omega (arith, ints, h, a, p, r)

module _ (g : Unknown → ℤ) (x : ℕ → ℕ → Option ℕ → ℤ) (positive : (l j : ℕ) (m : Option ℕ) → g (Positive l j m) ≡ x l j m) (negative : (l j : ℕ) (m : Option ℕ) → g (Negative l j m) ≡ neg_ℤ (x l j m)) (xs : List ℤ) where
  local-sum : (l s v d : ℕ) → weighted g (local_unknowns v l d) xs s ≡ total d (λ j. over v (λ m. x l j m *ℤ number m (term_read v xs (s + j * (2 * v + 2)))))
  local-sum l s v zero = refl
  local-sum l s v (suc d) =
      let h = local-sum l s v d in
      let a = weighted-append g (local_unknowns v l d) (term_unknowns v l d) xs s (s + d * (2 * v + 2)) (ap (λ z. s + z) (sym (length-local v l d))) in
      let t = term-sum g l d (x l d) (positive l d) (negative l d) xs (s + d * (2 * v + 2)) v in
      omega (arith, ints, h, a, t)

  terms-sum : (ways : ℕ → Way) (many d v locations : ℕ) → weighted g (terms_below ways many d v locations) xs 0 ≡ total locations (λ l. total d (λ j. over v (λ m. x l j m *ℤ number m (read_at ways many d v xs j l))))
  terms-sum ways many d v zero = refl
  terms-sum ways many d v (suc l) =
      let h = terms-sum ways many d v l in
      let s = length (terms_below ways many d v l) in
      let a = weighted-append g (terms_below ways many d v l) (if touches ways many l then local_unknowns v l d else []) xs 0 s (omega arith) in
      let b = by_touch (touches ways many l) s in
      omega (arith, ints, h, a, b)
    where
      by_touch : (b : Bool) (s : ℕ) → weighted g (if b then local_unknowns v l d else []) xs s ≡ total d (λ j. over v (λ m. x l j m *ℤ number m (if b then term_read v xs (s + j * (2 * v + 2)) else constant_row v (pos 0))))
      by_touch true s = local-sum l s v d
      by_touch false s = sym (total-zero d (λ j. over v (λ m. x l j m *ℤ number m (constant_row v (pos 0)))) (λ j i. over-zero v (λ m. x l j m *ℤ number m (constant_row v (pos 0))) (λ m k. ap (λ z. x l j m *ℤ z) (constant-numbers v m) ∙ omega (arith, ints))))

-- ---- the multipliers and the slack of an identity
multipliers-sum : (g : Unknown → ℤ) (id : Identity) (n : ℕ) (xs : List ℤ) (s : ℕ) → weighted g (multipliers_below id n) xs s ≡ total n (λ i. g (Multiplier id i) *ℤ get_or xs (s + i) (pos 0))
multipliers-sum g id zero xs s = refl
multipliers-sum g id (suc n) xs s =
    let h = multipliers-sum g id n xs s in
    let l = weighted-last g (multipliers_below id n) (Multiplier id n) xs s (s + n) (let e = length-multipliers id n in omega (arith, e)) in
    omega (arith, ints, h, l)

identity-sum : (id : Identity) (w : Way) (xs : List ℤ) (s : ℕ) (x : ℕ → ℤ) (u : ℤ) (g : Unknown → ℤ) (b : Bool) → ((i : ℕ) → g (Multiplier id i) ≡ (if b then neg_ℤ (x i) else pos 0)) → g (Slack id) ≡ (if b then u else pos 0) → weighted g (identity_unknowns id w) xs s ≡ (if b then u *ℤ slack_of w xs s -ℤ total (length (met_rows w)) (λ i. x i *ℤ get_or xs (s + i) (pos 0)) else pos 0)
identity-sum id w xs s x u g b multiplier slack =
    weighted-last g (multipliers_below id n) (Slack id) xs s (s + n) (let e = length-multipliers id n in omega (arith, e))
    ∙ (λ i. (multipliers-sum g id n xs s ∙ total-same n (λ i. g (Multiplier id i) *ℤ get_or xs (s + i) (pos 0)) (λ i. (if b then neg_ℤ (x i) else pos 0) *ℤ get_or xs (s + i) (pos 0)) (λ i l. ap (λ z. z *ℤ get_or xs (s + i) (pos 0)) (multiplier i))) i +ℤ slack i *ℤ get_or xs (s + n) (pos 0))
    ∙ by_test b
  where
    n : ℕ
    n = length (met_rows w)

    by_test : (b : Bool) → (total n (λ i. (if b then neg_ℤ (x i) else pos 0) *ℤ get_or xs (s + i) (pos 0)) +ℤ (if b then u else pos 0) *ℤ get_or xs (s + n) (pos 0)) ≡ (if b then u *ℤ slack_of w xs s -ℤ total n (λ i. x i *ℤ get_or xs (s + i) (pos 0)) else pos 0)
    by_test true =
        let a = total-same n (λ i. neg_ℤ (x i) *ℤ get_or xs (s + i) (pos 0)) (λ i. pos 0 -ℤ x i *ℤ get_or xs (s + i) (pos 0)) (λ i l. neg_times_z (x i) (get_or xs (s + i) (pos 0)) ∙ opposite_is (x i *ℤ get_or xs (s + i) (pos 0))) in
        let d = total-less n (λ i. pos 0) (λ i. x i *ℤ get_or xs (s + i) (pos 0)) in
        let z = total-zero n (λ i. pos 0) (λ i l. refl) in
        omega (arith, ints, a, d, z)
    by_test false =
        let z = total-zero n (λ i. pos 0 *ℤ get_or xs (s + i) (pos 0)) (λ i l. omega (arith, ints)) in
        omega (arith, ints, z)

way-sum : (g : Unknown → ℤ) (k : ℕ) (w : Way) (n : ℕ) (xs : List ℤ) (s : ℕ) → weighted g (way_unknowns k w n) xs s ≡ total n (λ i. weighted g (identity_unknowns (identity k i) w) xs (s + i * (length (met_rows w) + 1)))
way-sum g k w zero xs s = refl
way-sum g k w (suc n) xs s =
    let h = way-sum g k w n xs s in
    let a = weighted-append g (way_unknowns k w n) (identity_unknowns (identity k n) w) xs s (s + n * (length (met_rows w) + 1)) (ap (λ z. s + z) (sym (length-way k w n))) in
    omega (arith, ints, h, a)

steps-sum : (g : Unknown → ℤ) (ways : ℕ → Way) (d m : ℕ) (xs : List ℤ) (s : ℕ) → weighted g (steps_below ways d m) xs s ≡ total m (λ k. weighted g (way_unknowns k (ways k) (suc d)) xs (s + length (steps_below ways d k)))
steps-sum g ways d zero xs s = refl
steps-sum g ways d (suc m) xs s =
    let h = steps-sum g ways d m xs s in
    let a = weighted-append g (steps_below ways d m) (way_unknowns m (ways m) (suc d)) xs s (s + length (steps_below ways d m)) refl in
    omega (arith, ints, h, a)

-- ---- one term out of the sum over all
if_total : (a : Bool) (n : ℕ) (x : ℕ → ℤ) → total n (λ l. if a then x l else pos 0) ≡ (if a then total n x else pos 0)
if_total true n x = refl
if_total false n x = total-zero n (λ l. pos 0) (λ l k. refl)

both_totals : (a b : Bool) (n : ℕ) (x y : ℕ → ℤ) → total n (λ l. (if a then x l else pos 0) +ℤ (if b then y l else pos 0)) ≡ (if a then total n x else pos 0) +ℤ (if b then total n y else pos 0)
both_totals a b n x y = total-add n (λ l. if a then x l else pos 0) (λ l. if b then y l else pos 0) ∙ (λ i. if_total a n x i +ℤ if_total b n y i)

next_tested : (a b : ℕ) → (suc a == suc b) ≡ (a == b)
next_tested a b = elim (cases_eq a b) [
  | inl e ↦ eq-eqb (suc a) (suc b) (ap suc e) ∙ sym (eq-eqb a b e)
  | inr n ↦ ne_eqb (suc a) (suc b) (λ e. n (omega (arith, e))) ∙ sym (ne_eqb a b n)
]

own_past : (d : ℕ) (g : ℕ → ℤ) → total d (λ j. if d == j then g j else pos 0) ≡ pos 0
own_past d g = total-zero d (λ j. if d == j then g j else pos 0) (λ j l. if_false (d == j) (g j) (pos 0) (ne_eqb d j (λ e. omega (arith, e, l))))

none_first : (d : ℕ) (g : ℕ → ℤ) → total d (λ j. if 0 == suc j then g j else pos 0) ≡ pos 0
none_first d g = total-zero d (λ j. if 0 == suc j then g j else pos 0) (λ j l. if_false (0 == suc j) (g j) (pos 0) (ne_eqb 0 (suc j) (λ e. omega (arith, e))))

next_picked : (d i : ℕ) (g : ℕ → ℤ) → i < d → total d (λ j. if suc i == suc j then g j else pos 0) ≡ g i
next_picked d i g l = total-same d (λ j. if suc i == suc j then g j else pos 0) (λ j. if i == j then g j else pos 0) (λ j k. ap (λ b. if b then g j else pos 0) (next_tested i j)) ∙ picked d i g l

module _ (v locations many d : ℕ) (ways : ℕ → Way) (xs : List ℤ) where
  abbrev pub base : ℕ
  base = length (terms_below ways many d v locations)

  -- where the multipliers of an identity begin
  abbrev pub line_start : ℕ → ℕ → ℕ
  line_start k i = (base + length (steps_below ways d k)) + i * (length (met_rows (ways k)) + 1)

  abbrev pub term : ℕ → ℕ → Linear
  term j l = read_at ways many d v xs j l

  -- the term before the one with a number where a way starts
  abbrev pub before : ℕ → ℕ → Linear
  before k zero = zero_row
  before k (suc j) = read_at ways many d v xs j (ways k).taken.from

  -- a term after a way, in a column
  abbrev pub changed : ℕ → ℕ → Option ℕ → ℤ
  changed k j c = known_number (composed (given (read_at ways many d v xs j (ways k).taken.to)) (terms_after v (ways k).taken.updates)) c

  pub term_width : (j l : ℕ) → columns (term j l) ≡ v
  term_width j l = by_touch (touches ways many l) (length (terms_below ways many d v l) + j * (2 * v + 2))
    where
      by_touch : (b : Bool) (s : ℕ) → columns (if b then term_read v xs s else constant_row v (pos 0)) ≡ v
      by_touch true s = length-differences xs s v
      by_touch false s = length-zeros v

  -- ---- the multipliers in a row of the system
  module _ (k i : ℕ) (k_in : k < many) (i_in : i < suc d) (c : Option ℕ) where
    abbrev row : Unknown → ℤ
    row = entry ways (line (identity k i) c)

    abbrev block : ℕ → ℕ → ℤ
    block m n = unit_at None c *ℤ slack_of (ways m) xs (line_start m n) -ℤ total (length (met_rows (ways m))) (λ r. row_of (ways k) r c *ℤ get_or xs (line_start m n + r) (pos 0))

    spread : (a : Bool) (m : ℕ) → total (suc d) (λ n. if a then (if n == i then block m n else pos 0) else pos 0) ≡ (if a then block m i else pos 0)
    spread true m = picked_turned (suc d) i (block m) i_in
    spread false m = total-zero (suc d) (λ n. pos 0) (λ n l. refl)

    of_way : (m : ℕ) → weighted (entry ways (line (identity k i) c)) (way_unknowns m (ways m) (suc d)) xs (base + length (steps_below ways d m)) ≡ (if m == k then block m i else pos 0)
    of_way m =
        way-sum row m (ways m) (suc d) xs (base + length (steps_below ways d m))
        ∙ total-same (suc d) (λ n. weighted row (identity_unknowns (identity m n) (ways m)) xs (line_start m n)) (λ n. if m == k then (if n == i then block m n else pos 0) else pos 0) (λ n l.
        identity-sum (identity m n) (ways m) xs (line_start m n) (λ r. row_of (ways k) r c) (unit_at None c) row (m == k && n == i) (λ r. refl) refl
        ∙ if_both (m == k) (n == i) (block m n))
        ∙ spread (m == k) m

    blocks : weighted (entry ways (line (identity k i) c)) (steps_below ways d many) xs base ≡ unit_at None c *ℤ slack_of (ways k) xs (line_start k i) -ℤ rows_sum (ways k) xs (line_start k i) c
    blocks =
        steps-sum row ways d many xs base
        ∙ total-same many (λ m. weighted row (way_unknowns m (ways m) (suc d)) xs (base + length (steps_below ways d m))) (λ m. if m == k then block m i else pos 0) (λ m l. of_way m)
        ∙ picked_turned many k (λ m. block m i) k_in

    -- ---- the terms in it
    module _ (from_in : (ways k).taken.from < locations) (to_in : (ways k).taken.to < locations) where
      abbrev held : ℕ → ℤ
      held j = number c (read_at ways many d v xs j (ways k).taken.from)

      own : (j l : ℕ) → over v (λ m. (entered (ways k).taken l m c -ℤ left (ways k).taken l m c) *ℤ number m (term j l)) ≡ over v (λ m. entered (ways k).taken l m c *ℤ number m (term j l)) -ℤ over v (λ m. left (ways k).taken l m c *ℤ number m (term j l))
      own j l =
          over-same v (λ m. (entered (ways k).taken l m c -ℤ left (ways k).taken l m c) *ℤ number m (term j l)) (λ m. entered (ways k).taken l m c *ℤ number m (term j l) -ℤ left (ways k).taken l m c *ℤ number m (term j l)) (λ m h. less_times (entered (ways k).taken l m c) (left (ways k).taken l m c) (number m (term j l)))
          ∙ over-less v (λ m. entered (ways k).taken l m c *ℤ number m (term j l)) (λ m. left (ways k).taken l m c *ℤ number m (term j l))

      all_after : (j : ℕ) → total locations (λ l. over v (λ m. entered (ways k).taken l m c *ℤ number m (term j l))) ≡ changed k j c
      all_after j = one_term v locations (ways k).taken.to (λ m. after (ways k).taken m c) (λ l m. number m (term j l)) to_in ∙ after-number v c (term j (ways k).taken.to) (ways k)

      all_before : (j : ℕ) → total locations (λ l. over v (λ m. left (ways k).taken l m c *ℤ number m (term j l))) ≡ held j
      all_before j = one_term v locations (ways k).taken.from (λ m. unit_at m c) (λ l m. number m (term j l)) from_in ∙ unit-number v c (term j (ways k).taken.from) (term_width j (ways k).taken.from)

      own_all : (j : ℕ) → total locations (λ l. over v (λ m. (entered (ways k).taken l m c -ℤ left (ways k).taken l m c) *ℤ number m (term j l))) ≡ changed k j c -ℤ held j
      own_all j =
          total-same locations (λ l. over v (λ m. (entered (ways k).taken l m c -ℤ left (ways k).taken l m c) *ℤ number m (term j l))) (λ l. over v (λ m. entered (ways k).taken l m c *ℤ number m (term j l)) -ℤ over v (λ m. left (ways k).taken l m c *ℤ number m (term j l))) (λ l q. own j l)
          ∙ total-less locations (λ l. over v (λ m. entered (ways k).taken l m c *ℤ number m (term j l))) (λ l. over v (λ m. left (ways k).taken l m c *ℤ number m (term j l)))
          ∙ (λ t. all_after j t -ℤ all_before j t)

      next_all : (j : ℕ) → total locations (λ l. over v (λ m. neg_ℤ (left (ways k).taken l m c) *ℤ number m (term j l))) ≡ neg_ℤ (held j)
      next_all j =
          let a = total-same locations (λ l. over v (λ m. neg_ℤ (left (ways k).taken l m c) *ℤ number m (term j l))) (λ l. pos 0 -ℤ over v (λ m. left (ways k).taken l m c *ℤ number m (term j l))) (λ l q. over_opposite v (λ m. left (ways k).taken l m c) (λ m. number m (term j l)) ∙ opposite_is (over v (λ m. left (ways k).taken l m c *ℤ number m (term j l)))) in
          let e = total-less locations (λ l. pos 0) (λ l. over v (λ m. left (ways k).taken l m c *ℤ number m (term j l))) in
          let z = total-zero locations (λ l. pos 0) (λ l q. refl) in
          let f = all_before j in
          omega (arith, ints, a, e, z, f)

      of_number : (j : ℕ) → total locations (λ l. over v (λ m. term_entry (ways k).taken l j m i c *ℤ number m (term j l))) ≡ (if i == j then changed k j c -ℤ held j else pos 0) +ℤ (if i == suc j then neg_ℤ (held j) else pos 0)
      of_number j =
          total-same locations (λ l. over v (λ m. term_entry (ways k).taken l j m i c *ℤ number m (term j l))) (λ l. (if i == j then over v (λ m. (entered (ways k).taken l m c -ℤ left (ways k).taken l m c) *ℤ number m (term j l)) else pos 0) +ℤ (if i == suc j then over v (λ m. neg_ℤ (left (ways k).taken l m c) *ℤ number m (term j l)) else pos 0)) (λ l q.
          over_two (i == j) (i == suc j) v (λ m. entered (ways k).taken l m c -ℤ left (ways k).taken l m c) (λ m. neg_ℤ (left (ways k).taken l m c)) (λ m. number m (term j l)))
          ∙ both_totals (i == j) (i == suc j) locations (λ l. over v (λ m. (entered (ways k).taken l m c -ℤ left (ways k).taken l m c) *ℤ number m (term j l))) (λ l. over v (λ m. neg_ℤ (left (ways k).taken l m c) *ℤ number m (term j l)))
          ∙ (λ t. (if i == j then own_all j t else pos 0) +ℤ (if i == suc j then next_all j t else pos 0))

      whole : weighted (entry ways (line (identity k i) c)) (unknowns ways many d v locations) xs 0 ≡ (total d (λ j. if i == j then changed k j c -ℤ held j else pos 0) +ℤ total d (λ j. if i == suc j then neg_ℤ (held j) else pos 0)) +ℤ (unit_at None c *ℤ slack_of (ways k) xs (line_start k i) -ℤ rows_sum (ways k) xs (line_start k i) c)
      whole =
          let a = weighted-append row (terms_below ways many d v locations) (steps_below ways d many) xs 0 base (omega arith) in
          let t = terms-sum row (λ l j m. term_entry (ways k).taken l j m i c) (λ l j m. refl) (λ l j m. refl) xs ways many d v locations in
          let s = total-swap locations d (λ l j. over v (λ m. term_entry (ways k).taken l j m i c *ℤ number m (term j l))) in
          let e = total-same d (λ j. total locations (λ l. over v (λ m. term_entry (ways k).taken l j m i c *ℤ number m (term j l)))) (λ j. (if i == j then changed k j c -ℤ held j else pos 0) +ℤ (if i == suc j then neg_ℤ (held j) else pos 0)) (λ j l. of_number j) in
          let f = total-add d (λ j. if i == j then changed k j c -ℤ held j else pos 0) (λ j. if i == suc j then neg_ℤ (held j) else pos 0) in
          let b = blocks in
          omega (arith, ints, a, t, s, e, f, b)

  no_number : (c : Option ℕ) → number c zero_row ≡ pos 0
  no_number None = refl
  no_number (Some j) = refl

  earlier : (k i : ℕ) (c : Option ℕ) → i < suc d → total d (λ j. if i == suc j then neg_ℤ (number c (read_at ways many d v xs j (ways k).taken.from)) else pos 0) ≡ neg_ℤ (number c (before k i))
  earlier k zero c l = none_first d (λ j. neg_ℤ (number c (read_at ways many d v xs j (ways k).taken.from))) ∙ ap neg_ℤ (sym (no_number c))
  earlier k (suc i) c l = next_picked d i (λ j. neg_ℤ (number c (read_at ways many d v xs j (ways k).taken.from))) (omega (arith, l))

  -- the left side less the right side of an identity, at what is read
  pub step_sum : (k j : ℕ) (c : Option ℕ) → k < many → j < d → (ways k).taken.from < locations → (ways k).taken.to < locations → weighted (entry ways (line (identity k j) c)) (unknowns ways many d v locations) xs 0 ≡ ((changed k j c -ℤ number c (term j (ways k).taken.from)) -ℤ number c (before k j)) +ℤ (unit_at None c *ℤ slack_of (ways k) xs (line_start k j) -ℤ rows_sum (ways k) xs (line_start k j) c)
  step_sum k j c k_in j_in from_in to_in =
      let w = whole k j k_in (omega (arith, j_in)) c from_in to_in in
      let p = picked d j (λ j. changed k j c -ℤ number c (read_at ways many d v xs j (ways k).taken.from)) j_in in
      let e = earlier k j c (omega (arith, j_in)) in
      omega (arith, ints, w, p, e)

  pub end_sum : (k : ℕ) (c : Option ℕ) → k < many → (ways k).taken.from < locations → (ways k).taken.to < locations → weighted (entry ways (line (identity k d) c)) (unknowns ways many d v locations) xs 0 ≡ neg_ℤ (number c (before k d)) +ℤ (unit_at None c *ℤ slack_of (ways k) xs (line_start k d) -ℤ rows_sum (ways k) xs (line_start k d) c)
  end_sum k c k_in from_in to_in =
      let w = whole k d k_in (omega arith) c from_in to_in in
      let p = own_past d (λ j. changed k j c -ℤ number c (read_at ways many d v xs j (ways k).taken.from)) in
      let e = earlier k d c (omega arith) in
      omega (arith, ints, w, p, e)

  -- ---- the equations of a solution
  module _ (scale : ℤ) (h : IsSolutionOf (nested_system ways many d v locations) xs scale) where
    abbrev Equals : Line → Type 0
    Equals x = weighted (entry ways x) (unknowns ways many d v locations) xs 0 ≡ scale *ℤ right_of d x.identity x.column

    row_is : (k : ℕ) → k < length (lines ways d v many) → Equals (get_or (lines ways d v many) k (line (identity 0 0) None))
    row_is k l =
        let x = get_or (lines ways d v many) k (line (identity 0 0) None) in
        let us = unknowns ways many d v locations in
        sym (weighted-total (entry ways x) us xs 0)
        ∙ total-same (length us) (λ j. get_or (map (entry ways x) us) j (pos 0) *ℤ get_or xs (0 + j) (pos 0)) (λ j. entry_at (nested_system ways many d v locations) k j *ℤ get_or xs j (pos 0)) (λ j g. (λ i. (get_or-map (entry ways x) us j (Slack (identity 0 0)) (pos 0) g ∙ sym (entry_of v locations many d ways xs k j l g)) i *ℤ get_or xs (plain j i) (pos 0)))
        ∙ h.met k l
        ∙ ap (λ z. scale *ℤ z) (get_or-map (λ y. right_of d y.identity y.column) (lines ways d v many) k (line (identity 0 0) None) (pos 0) l)
      where
        plain : (j : ℕ) → 0 + j ≡ j
        plain j = omega arith

    each_row : AllByRecursion Equals (lines ways d v many)
    each_row = all_by_place Equals (lines ways d v many) (line (identity 0 0) None) row_is

    pub solved_row : (k i : ℕ) (c : Option ℕ) → k < many → i < suc d → Inside (width v (ways k)) c → Equals (line (identity k i) c)
    solved_row k i c k_in i_in c_in = of_lines Equals v (identity k i) (ways k) c (of_all_lines Equals ways d v many k i each_row k_in i_in) c_in
