-- Solutions of the ranking system at rational points: the terms that are read off rank the ways there. Rows that are refuted have none.
use Rattle.std.proofs.Common.{◌≡◌, ℕ, ◌+◌, ◌<◌, List, [], length, map, get_or, All, Option, None, Some, Bool, true, false, ◌==◌, if◌then◌else◌, arith, refl, sym, ap, ◌∙◌, subst, ℤ, pos, neg_ℤ, ◌+ℤ◌, ◌-ℤ◌, ◌*ℤ◌, ◌≤ℤ◌, ◌<ℤ◌}
use Rattle.std.proofs.lemmas.Int.{ints}
use Rattle.std.proofs.lemmas.List.{length-map, get_or-map}
use Rattle.std.proofs.lemmas.List.Elements.{All-from_get_or}
use Rattle.std.proofs.Math.IntN.{*ℤ_comm}
use Rattle.std.proofs.lemmas.Bool.{eq-eqb}
use Rattle.tv_linear.specs.Linear.{Linear, linear, columns, dot}
use Rattle.tv_linear.specs.Known.{number, given, composed, known_number, as_given}
use Rattle.tv_linear.specs.Refutation.{Refutes, column_sum}
use Rattle.tv_linear.specs.Terms.{terms_after}
use Rattle.tv_linear.proofs.KnownLemmas.{length-given}
use Rattle.tv_linear.proofs.ListLaws.{get_or-table}
use Rattle.tv_linear.proofs.PlainLists.{length-table}
use Rattle.tv_linear.proofs.Ring.{distribute_right_z, mul_assoc_z, neg_times_z, not_above}
use Rattle.tv_farkas.proofs.SystemLemmas.{at_of, dot-total, known-given}
use Rattle.tv_simplex.specs.Sums.{total}
use Rattle.tv_simplex.specs.Outcomes.{IsSolutionOf}
use Rattle.tv_simplex.proofs.Sums.{total-same, total-times, total-zero}
use Rattle.tv_simplex.proofs.Ring.{less_times, not_under_times}
use Rattle.tv_rank.specs.declared.unknown.Identity.TheVariants.{Step}
use Rattle.tv_rank.specs.Ways.{Way, met_rows}
use Rattle.tv_rank.specs.RankingSystem.{unit_at, after, right_of, ranking_system}
use Rattle.tv_rank.specs.Rankings.{term_at, local_term, listed_terms, HasPoint, Ranks}
use Rattle.tv_rank.specs.Reading.{read_at, terms_read}
use Rattle.tv_rank.proofs.Over.{over, Inside, over-same, over-less, over-add, over-times, over-total, unit_times}
use Rattle.tv_rank.proofs.Barriers.{value, width, row_of, before_at, after_at, there_before, there_after}
use Rattle.tv_rank.proofs.Excluded.{IsPoint, RanksAt, change_at}
use Rattle.tv_rank.proofs.Points.{numbers_at, pointed, ranks_listed, terms_wide}
use Rattle.tv_rank.proofs.Locals.{local-read}
use Rattle.tv_rank.proofs.Solved.{unit-number, after-number, rows_sum, slack_of, step_start, term_width, step_sum, bound_sum, step_row, bound_row_is}
use Rattle.tv_fraction.proofs.Products.{product_above}
use Rattle.tv_simplex.proofs.GoesOn.{total-not_above}

-- ---- sums at a point
turned : (a b c : ℤ) → (a *ℤ b) *ℤ c ≡ b *ℤ (a *ℤ c)
turned a b c = ap (λ z. z *ℤ c) (*ℤ_comm a b) ∙ mul_assoc_z b a c

pub total_by : (m : ℕ) (f : ℕ → ℤ) (z : ℤ) → total m f *ℤ z ≡ total m (λ i. f i *ℤ z)
total_by m f z = *ℤ_comm (total m f) z ∙ sym (total-times m z f) ∙ total-same m (λ i. z *ℤ f i) (λ i. f i *ℤ z) (λ i l. *ℤ_comm z (f i))

-- rows, each times a number, at a point
pub rows_there : (n m : ℕ) (y : ℕ → ℤ) (rows : ℕ → Option ℕ → ℤ) (p : Option ℕ → ℤ) → over n (λ c. total m (λ i. rows i c *ℤ y i) *ℤ p c) ≡ total m (λ i. y i *ℤ value n (rows i) p)
rows_there n m y rows p =
    over-same n (λ c. total m (λ i. rows i c *ℤ y i) *ℤ p c) (λ c. total m (λ i. y i *ℤ (rows i c *ℤ p c))) (λ c l. total_by m (λ i. rows i c *ℤ y i) (p c) ∙ total-same m (λ i. (rows i c *ℤ y i) *ℤ p c) (λ i. y i *ℤ (rows i c *ℤ p c)) (λ i k. turned (rows i c) (y i) (p c)))
    ∙ over-total n m (λ c i. y i *ℤ (rows i c *ℤ p c))
    ∙ total-same m (λ i. over n (λ c. y i *ℤ (rows i c *ℤ p c))) (λ i. y i *ℤ value n (rows i) p) (λ i l. over-times n (y i) (λ c. rows i c *ℤ p c))

-- where the point meets the rows and no number is negative, they add up to at most 0
pub rows_low : (n m : ℕ) (y : ℕ → ℤ) (rows : ℕ → Option ℕ → ℤ) (p : Option ℕ → ℤ) → ((i : ℕ) → i < m → pos 0 ≤ℤ y i) → ((i : ℕ) → i < m → value n (rows i) p ≤ℤ pos 0) → over n (λ c. total m (λ i. rows i c *ℤ y i) *ℤ p c) ≤ℤ pos 0
rows_low n m y rows p positive meets = subst (λ z. z ≤ℤ pos 0) (sym (rows_there n m y rows p)) (total-not_above m (λ i. y i *ℤ value n (rows i) p) (λ i l. not_above (y i) (value n (rows i) p) (positive i l) (meets i l)))

-- the numbers of a term, each by what it stands before, at a point
pub numbers_there : (n v : ℕ) (a : Option ℕ → Option ℕ → ℤ) (f p : Option ℕ → ℤ) → over n (λ c. over v (λ m. a m c *ℤ f m) *ℤ p c) ≡ over v (λ m. f m *ℤ value n (a m) p)
numbers_there n v a f p =
    let first = rows_there n v (λ j. f (Some j)) (λ j. a (Some j)) p in
    let last = over-same n (λ c. (a None c *ℤ f None) *ℤ p c) (λ c. f None *ℤ (a None c *ℤ p c)) (λ c l. turned (a None c) (f None) (p c)) ∙ over-times n (f None) (λ c. a None c *ℤ p c) in
    let apart = over-same n (λ c. over v (λ m. a m c *ℤ f m) *ℤ p c) (λ c. total v (λ j. a (Some j) c *ℤ f (Some j)) *ℤ p c +ℤ (a None c *ℤ f None) *ℤ p c) (λ c l. distribute_right_z (total v (λ j. a (Some j) c *ℤ f (Some j))) (a None c *ℤ f None) (p c))
    ∙ over-add n (λ c. total v (λ j. a (Some j) c *ℤ f (Some j)) *ℤ p c) (λ c. (a None c *ℤ f None) *ℤ p c) in
    omega (arith, ints, first, last, apart)

-- the left side of an identity less its right side at a point
pub sides_there : (n : ℕ) (a b u r : Option ℕ → ℤ) (s : ℤ) (p : Option ℕ → ℤ) → over n (λ c. ((a c -ℤ b c) +ℤ (u c *ℤ s -ℤ r c)) *ℤ p c) ≡ (over n (λ c. a c *ℤ p c) -ℤ over n (λ c. b c *ℤ p c)) +ℤ (s *ℤ over n (λ c. u c *ℤ p c) -ℤ over n (λ c. r c *ℤ p c))
sides_there n a b u r s p =
    let spread = over-same n (λ c. ((a c -ℤ b c) +ℤ (u c *ℤ s -ℤ r c)) *ℤ p c) (λ c. (a c *ℤ p c -ℤ b c *ℤ p c) +ℤ (s *ℤ (u c *ℤ p c) -ℤ r c *ℤ p c)) (λ c l. one (a c) (b c) (u c) (r c) (p c)) in
    let apart = over-add n (λ c. a c *ℤ p c -ℤ b c *ℤ p c) (λ c. s *ℤ (u c *ℤ p c) -ℤ r c *ℤ p c) in
    let first = over-less n (λ c. a c *ℤ p c) (λ c. b c *ℤ p c) in
    let second = over-less n (λ c. s *ℤ (u c *ℤ p c)) (λ c. r c *ℤ p c) in
    let slack = over-times n s (λ c. u c *ℤ p c) in
    omega (arith, ints, spread, apart, first, second, slack)
  where
    one : (a b u r p : ℤ) → ((a -ℤ b) +ℤ (u *ℤ s -ℤ r)) *ℤ p ≡ (a *ℤ p -ℤ b *ℤ p) +ℤ (s *ℤ (u *ℤ p) -ℤ r *ℤ p)
    one a b u r p =
        let whole = distribute_right_z (a -ℤ b) (u *ℤ s -ℤ r) p in
        let first = less_times a b p in
        let second = less_times (u *ℤ s) r p in
        let slack = turned u s p in
        omega (arith, ints, whole, first, second, slack)

-- a right side that has a constant alone
pub right_there : (n : ℕ) (scale : ℤ) (g p : Option ℕ → ℤ) → ((j : ℕ) → g (Some j) ≡ pos 0) → over n (λ c. (scale *ℤ g c) *ℤ p c) ≡ (scale *ℤ g None) *ℤ p None
right_there n scale g p h =
    let z = total-zero n (λ j. (scale *ℤ g (Some j)) *ℤ p (Some j)) (λ j l. ap (λ y. (scale *ℤ y) *ℤ p (Some j)) (h j) ∙ zero (p (Some j))) in
    omega (arith, ints, z)
  where
    zero : (x : ℤ) → (scale *ℤ pos 0) *ℤ x ≡ pos 0
    zero x = ap (λ y. y *ℤ x) (let e : scale *ℤ pos 0 ≡ pos 0 = omega (arith, ints) in e) ∙ omega (arith, ints)

-- ---- rows that are refuted have no rational point
pub refuted_way : (v : ℕ) (w : Way) (ms : List ℤ) → Refutes (width v w) (as_given (met_rows w)) ms → HasPoint v w → ⊥
refuted_way v w ms h point =
    let (p, q) = pointed v w point in
    let low = rows_low (width v w) (length (met_rows w)) (λ i. get_or ms i (pos 0)) (row_of w) p
    (λ i l. at_of (λ m. pos 0 ≤ℤ m) ms (pos 0) h.none_negative i (let e = as_many in omega (arith, e, l))) q.meets in
    let sum = over-same (width v w) (λ c. total (length (met_rows w)) (λ i. row_of w i c *ℤ get_or ms i (pos 0)) *ℤ p c) (λ c. (pos 1 *ℤ column c) *ℤ p c) (λ c l. ap (λ z. z *ℤ p c) (sum_is c l)) ∙ right_there (width v w) (pos 1) column p (λ j. refl) in
    let above = product_above (column_sum ms (as_given (met_rows w)) None) (p None) h.constant q.positive in
    let one = ap (λ z. z *ℤ p None) (let e : pos 1 *ℤ column None ≡ column None = omega (arith, ints) in e) in
    absurd (omega (arith, ints, low, sum, above, one))
  where
    as_many : length ms ≡ length (met_rows w)
    as_many = h.as_many ∙ length-given (met_rows w)

    column : Option ℕ → ℤ
    column None = column_sum ms (as_given (met_rows w)) None
    column (Some j) = pos 0

    sums : (c : Option ℕ) → column_sum ms (as_given (met_rows w)) c ≡ total (length (met_rows w)) (λ i. row_of w i c *ℤ get_or ms i (pos 0))
    sums c =
        ap (λ zs. dot ms zs) (known-given c (met_rows w))
        ∙ dot-total ms (map (λ r. number c r) (met_rows w)) (as_many ∙ sym (length-map (met_rows w) (λ r. number c r)))
        ∙ ap (λ z. total z (λ k. get_or ms k (pos 0) *ℤ get_or (map (λ r. number c r) (met_rows w)) k (pos 0))) as_many
        ∙ total-same (length (met_rows w)) (λ k. get_or ms k (pos 0) *ℤ get_or (map (λ r. number c r) (met_rows w)) k (pos 0)) (λ i. row_of w i c *ℤ get_or ms i (pos 0)) (λ i l. ap (λ z. get_or ms i (pos 0) *ℤ z) (get_or-map (λ r. number c r) (met_rows w) i (linear [] (pos 0)) (pos 0) l) ∙ *ℤ_comm (get_or ms i (pos 0)) (row_of w i c))

    sum_is : (c : Option ℕ) → Inside (width v w) c → total (length (met_rows w)) (λ i. row_of w i c *ℤ get_or ms i (pos 0)) ≡ pos 1 *ℤ column c
    sum_is None l = sym (sums None) ∙ omega (arith, ints)
    sum_is (Some j) l = sym (sums (Some j)) ∙ h.columns j l ∙ omega (arith, ints)

-- ---- the terms of a solution
module _ (v locations many : ℕ) (ways : ℕ → Way) (falling : ℕ) (falling_in : falling < many) (xs : List ℤ) (scale : ℤ) (h : IsSolutionOf (ranking_system ways many falling v locations) xs scale) (positive : (j : ℕ) → pos 0 ≤ℤ get_or xs j (pos 0)) (from_in : (k : ℕ) → k < many → (ways k).taken.from < locations) (to_in : (k : ℕ) → k < many → (ways k).taken.to < locations) where
  abbrev start : ℕ → ℕ
  start k = step_start v locations many ways falling falling_in xs k

  abbrev term : ℕ → Linear
  term l = read_at ways many v xs l

  abbrev numbers : ℕ → Option ℕ → ℤ
  numbers l m = number m (read_at ways many v xs l)

  met_low : (k s : ℕ) (p : Option ℕ → ℤ) → IsPoint v (ways k) p → over (width v (ways k)) (λ c. rows_sum (ways k) xs s c *ℤ p c) ≤ℤ pos 0
  met_low k s p q = rows_low (width v (ways k)) (length (met_rows (ways k))) (λ i. get_or xs (s + i) (pos 0)) (row_of (ways k)) p (λ i l. positive (s + i)) q.meets

  slack_not_under : (k s : ℕ) (p : Option ℕ → ℤ) → IsPoint v (ways k) p → pos 0 ≤ℤ (slack_of (ways k) xs s *ℤ p None)
  slack_not_under k s p q = not_under_times (slack_of (ways k) xs s) (p None) (positive (s + length (met_rows (ways k)))) (let l = q.positive in omega (arith, ints, l))

  term_before : (k : ℕ) (p : Option ℕ → ℤ) → over (width v (ways k)) (λ c. number c (term (ways k).taken.from) *ℤ p c) ≡ before_at v numbers (ways k) p
  term_before k p =
      let f = term (ways k).taken.from in
      over-same (width v (ways k)) (λ c. number c f *ℤ p c) (λ c. over v (λ m. unit_at m c *ℤ number m f) *ℤ p c) (λ c l. ap (λ z. z *ℤ p c) (sym (unit-number v c f (term_width v locations many ways falling falling_in xs (ways k).taken.from))))
      ∙ numbers_there (width v (ways k)) v unit_at (λ m. number m f) p

  term_after : (k : ℕ) (p : Option ℕ → ℤ) → over (width v (ways k)) (λ c. known_number (composed (given (term (ways k).taken.to)) (terms_after v (ways k).taken.updates)) c *ℤ p c) ≡ after_at v numbers (ways k) p
  term_after k p =
      let f = term (ways k).taken.to in
      over-same (width v (ways k)) (λ c. known_number (composed (given f) (terms_after v (ways k).taken.updates)) c *ℤ p c) (λ c. over v (λ m. after (ways k).taken m c *ℤ number m f) *ℤ p c) (λ c l. ap (λ z. z *ℤ p c) (sym (after-number v c f (ways k))))
      ∙ numbers_there (width v (ways k)) v (after (ways k).taken) (λ m. number m f) p

  -- by how much the terms grow over a way at a point
  grows : (k : ℕ) (p : Option ℕ → ℤ) → k < many → IsPoint v (ways k) p → change_at v numbers (ways k) p ≤ℤ ((scale *ℤ right_of falling (Step k) None) *ℤ p None)
  grows k p k_in q =
      let n = width v (ways k) in
      let a = known_number (composed (given (term (ways k).taken.to)) (terms_after v (ways k).taken.updates)) in
      let b = λ (c : Option ℕ). number c (term (ways k).taken.from) in
      let r = rows_sum (ways k) xs (start k) in
      let s = slack_of (ways k) xs (start k) in
      let sides = sides_there n a b (unit_at None) r s p in
      let same = over-same n (λ c. ((a c -ℤ b c) +ℤ (unit_at None c *ℤ s -ℤ r c)) *ℤ p c) (λ c. (scale *ℤ right_of falling (Step k) c) *ℤ p c) (λ c l. ap (λ z. z *ℤ p c) (sym (step_sum v locations many ways falling falling_in xs k c k_in (from_in k k_in) (to_in k k_in)) ∙ step_row v locations many ways falling falling_in xs scale h k c k_in l)) in
      let right = right_there n scale (right_of falling (Step k)) p (λ j. refl) in
      let one = term_after k p in
      let two = term_before k p in
      let unit = ap (λ z. s *ℤ z) (unit_times n None p tt) in
      let low = met_low k (start k) p q in
      let slack = slack_not_under k (start k) p q in
      omega (arith, ints, sides, same, right, one, two, unit, low, slack)

  not_below : (p : Option ℕ → ℤ) → IsPoint v (ways falling) p → pos 0 ≤ℤ before_at v numbers (ways falling) p
  not_below p q =
      let n = width v (ways falling) in
      let b = λ (c : Option ℕ). number c (term (ways falling).taken.from) in
      let r = rows_sum (ways falling) xs (start many) in
      let s = slack_of (ways falling) xs (start many) in
      let sides = sides_there n (λ c. pos 0) b (unit_at None) r s p in
      let same = over-same n (λ c. ((pos 0 -ℤ b c) +ℤ (unit_at None c *ℤ s -ℤ r c)) *ℤ p c) (λ c. (scale *ℤ pos 0) *ℤ p c) (λ c l. ap (λ z. z *ℤ p c) (let e = sym (bound_sum v locations many ways falling falling_in xs c (from_in falling falling_in)) ∙ bound_row_is v locations many ways falling falling_in xs scale h c l in let f : (pos 0 -ℤ b c) +ℤ (unit_at None c *ℤ s -ℤ r c) ≡ scale *ℤ pos 0 = omega (arith, ints, e) in f)) in
      let right = right_there n scale (λ c. pos 0) p (λ j. refl) in
      let none = total-zero n (λ c. pos 0 *ℤ p (Some c)) (λ c l. omega (arith, ints)) in
      let zero : (scale *ℤ pos 0) *ℤ p None ≡ pos 0 = ap (λ y. y *ℤ p None) (let e : scale *ℤ pos 0 ≡ pos 0 = omega (arith, ints) in e) ∙ omega (arith, ints) in
      let two = term_before falling p in
      let unit = ap (λ z. s *ℤ z) (unit_times n None p tt) in
      let low = met_low falling (start many) p q in
      let slack = slack_not_under falling (start many) p q in
      omega (arith, ints, sides, same, right, none, zero, two, unit, low, slack)

  -- what the falling way falls by, at a point
  scaled_fall : (z : ℤ) → (scale *ℤ neg_ℤ (pos 1)) *ℤ z ≡ neg_ℤ (scale *ℤ z)
  scaled_fall z = ap (λ y. y *ℤ z) (let e : scale *ℤ neg_ℤ (pos 1) ≡ neg_ℤ scale = omega (arith, ints) in e) ∙ neg_times_z scale z

  right_low : (b : Bool) (z : ℤ) → pos 0 <ℤ z → ((scale *ℤ (if b then neg_ℤ (pos 1) else pos 0)) *ℤ z) ≤ℤ pos 0
  right_low true z l = (let e = scaled_fall z in let a = product_above scale z h.positive l in omega (arith, ints, e, a))
  right_low false z l = (let e : (scale *ℤ pos 0) *ℤ z ≡ pos 0 = ap (λ y. y *ℤ z) (let f : scale *ℤ pos 0 ≡ pos 0 = omega (arith, ints) in f) ∙ omega (arith, ints) in omega (arith, ints, e))

  right_falls : (b : Bool) (z : ℤ) → b ≡ true → pos 0 <ℤ z → ((scale *ℤ (if b then neg_ℤ (pos 1) else pos 0)) *ℤ z +ℤ z) ≤ℤ pos 0
  right_falls true z t l =
      let e = scaled_fall z in
      let p = h.positive in
      let m = not_under_times (scale -ℤ pos 1) z (omega (arith, ints, p)) (omega (arith, ints, l)) in
      let d = less_times scale (pos 1) z in
      omega (arith, ints, e, m, d)
  right_falls false z t l = absurd cc

  ranks_there : RanksAt v many ways falling numbers
  ranks_there = record {
    grows_nowhere = λ k k_in p q. let g = grows k p k_in q in let r = right_low (k == falling) (p None) q.positive in omega (arith, ints, g, r);
    bounded = not_below;
    falls = λ p q. let g = grows falling p falling_in q in let r = right_falls (falling == falling) (p None) (eq-eqb falling falling refl) q.positive in omega (arith, ints, g, r);
  }

  -- ---- the same of the terms in a list
  abbrev listed : List Linear
  listed = listed_terms v locations (terms_read ways many v xs locations)

  listed_is : (l : ℕ) → l < locations → term_at listed l ≡ term l
  listed_is l l_in = get_or-table locations (local_term v (terms_read ways many v xs locations)) l (linear [] (pos 0)) l_in ∙ local-read ways many v xs locations l l_in

  listed_wide : All (λ t. columns t ≡ v) listed
  listed_wide = All-from_get_or (λ t. columns t ≡ v) listed (linear [] (pos 0)) (λ l k.
      let l_in : l < locations = (let e = length-table locations (local_term v (terms_read ways many v xs locations)) in omega (arith, e, k)) in
      ap columns (listed_is l l_in) ∙ term_width v locations many ways falling falling_in xs l)

  before_same : (k : ℕ) → k < many → (p : Option ℕ → ℤ) → before_at v (numbers_at listed) (ways k) p ≡ before_at v numbers (ways k) p
  before_same k k_in p = ap (λ f. over v (λ m. number m f *ℤ there_before v (ways k) p m)) (listed_is (ways k).taken.from (from_in k k_in))

  after_same : (k : ℕ) → k < many → (p : Option ℕ → ℤ) → after_at v (numbers_at listed) (ways k) p ≡ after_at v numbers (ways k) p
  after_same k k_in p = ap (λ f. over v (λ m. number m f *ℤ there_after v (ways k) p m)) (listed_is (ways k).taken.to (to_in k k_in))

  pub solution_ranks : Ranks v many ways falling (listed_terms v locations (terms_read ways many v xs locations))
  solution_ranks = ranks_listed v many ways falling listed (λ l. terms_wide v listed l listed_wide) (record {
    grows_nowhere = λ k k_in p q. let g = ranks_there.grows_nowhere k k_in p q in let a = after_same k k_in p in let b = before_same k k_in p in omega (arith, ints, g, a, b);
    bounded = λ p q. let g = ranks_there.bounded p q in let b = before_same falling falling_in p in omega (arith, ints, g, b);
    falls = λ p q. let g = ranks_there.falls p q in let a = after_same falling falling_in p in let b = before_same falling falling_in p in omega (arith, ints, g, a, b);
  })
