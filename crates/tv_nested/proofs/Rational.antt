-- Solutions of the nested system at rational points: the terms that are read off are nested there.
use Rattle.std.proofs.Common.{◌≡◌, ℕ, zero, suc, ◌+◌, ◌<◌, ◌≤◌, List, length, get_or, Option, None, Some, Bool, true, false, ◌==◌, if◌then◌else◌, arith, refl, sym, ap, ◌∙◌, ℤ, pos, neg_ℤ, ◌+ℤ◌, ◌-ℤ◌, ◌*ℤ◌, ◌≤ℤ◌}
use Rattle.std.proofs.lemmas.Int.{ints}
use Rattle.std.proofs.lemmas.Bool.{eq-eqb, ne_eqb}
use Rattle.tv_linear.specs.Linear.{Linear, columns}
use Rattle.tv_linear.specs.Known.{number, given, composed, known_number}
use Rattle.tv_linear.specs.Terms.{terms_after}
use Rattle.tv_linear.proofs.Ring.{distribute_right_z, neg_times_z}
use Rattle.tv_simplex.specs.Outcomes.{IsSolutionOf}
use Rattle.tv_simplex.proofs.Sums.{total-zero}
use Rattle.tv_simplex.proofs.Ring.{less_times, not_under_times}
use Rattle.tv_rank.specs.Ways.{Way, met_rows}
use Rattle.tv_rank.specs.RankingSystem.{unit_at, after}
use Rattle.tv_rank.specs.Rankings.{term_at}
use Rattle.tv_rank.proofs.Over.{over, Inside, over-same, over-add, unit_times}
use Rattle.tv_rank.proofs.Barriers.{width, row_of, before_at, after_at}
use Rattle.tv_rank.proofs.Excluded.{IsPoint, change_at}
use Rattle.tv_rank.proofs.Points.{numbers_at, point_of, pointed_at, before_pointed, after_pointed}
use Rattle.tv_rank.proofs.Rational.{rows_low, numbers_there, sides_there, right_there}
use Rattle.tv_rank.proofs.Solved.{unit-number, after-number, rows_sum, slack_of}
use Rattle.tv_nested.specs.NestedSystem.{identity, right_of, nested_system}
use Rattle.tv_nested.specs.Reading.{read_at}
use Rattle.tv_nested.specs.Tuples.{terms_of, earlier, IsNested}
use Rattle.tv_nested.proofs.Excluded.{earlier_at, fall_at, NestedAt}
use Rattle.tv_nested.proofs.Equations.{line_start, before, changed, term_width, step_sum, end_sum, solved_row}

-- the right side of an identity in the constant
pub right_in : (d j : ℕ) → j < d → right_of d (identity 0 j) None ≡ neg_ℤ (pos 1)
right_in d j l = if_else (j == d) (ne_eqb j d (λ e. omega (arith, e, l)))
  where
    if_else : (b : Bool) → b ≡ false → (if b then pos 0 else neg_ℤ (pos 1)) ≡ neg_ℤ (pos 1)
    if_else true e = cc
    if_else false e = refl

pub right_last : (d : ℕ) → right_of d (identity 0 d) None ≡ pos 0
right_last d = if_then (d == d) (eq-eqb d d refl)
  where
    if_then : (b : Bool) → b ≡ true → (if b then pos 0 else neg_ℤ (pos 1)) ≡ pos 0
    if_then true e = refl
    if_then false e = cc

module _ (v locations many d : ℕ) (ways : ℕ → Way) (xs : List ℤ) (scale : ℤ) (h : IsSolutionOf (nested_system ways many d v locations) xs scale) (positive : (j : ℕ) → pos 0 ≤ℤ get_or xs j (pos 0)) (from_in : (k : ℕ) → k < many → (ways k).taken.from < locations) (to_in : (k : ℕ) → k < many → (ways k).taken.to < locations) where
  abbrev start : ℕ → ℕ → ℕ
  start k i = line_start v locations many d ways xs k i

  abbrev numbers : ℕ → ℕ → Option ℕ → ℤ
  numbers j l m = number m (read_at ways many d v xs j l)

  abbrev held : ℕ → ℕ → Option ℕ → ℤ
  held k j c = number c (read_at ways many d v xs j (ways k).taken.from)

  -- ---- the equations of the identities
  pub step_equation : (k j : ℕ) (c : Option ℕ) → k < many → j < d → Inside (width v (ways k)) c → ((changed v locations many d ways xs k j c -ℤ held k j c) -ℤ number c (before v locations many d ways xs k j)) +ℤ (unit_at None c *ℤ slack_of (ways k) xs (start k j) -ℤ rows_sum (ways k) xs (start k j) c) ≡ scale *ℤ right_of d (identity k j) c
  step_equation k j c k_in j_in c_in = sym (step_sum v locations many d ways xs k j c k_in j_in (from_in k k_in) (to_in k k_in)) ∙ solved_row v locations many d ways xs scale h k j c k_in (omega (arith, j_in)) c_in

  pub end_equation : (k : ℕ) (c : Option ℕ) → k < many → Inside (width v (ways k)) c → neg_ℤ (number c (before v locations many d ways xs k d)) +ℤ (unit_at None c *ℤ slack_of (ways k) xs (start k d) -ℤ rows_sum (ways k) xs (start k d) c) ≡ scale *ℤ right_of d (identity k d) c
  end_equation k c k_in c_in = sym (end_sum v locations many d ways xs k c k_in (from_in k k_in) (to_in k k_in)) ∙ solved_row v locations many d ways xs scale h k d c k_in (omega arith) c_in

  -- ---- at a point
  met_low : (k s : ℕ) (p : Option ℕ → ℤ) → IsPoint v (ways k) p → over (width v (ways k)) (λ c. rows_sum (ways k) xs s c *ℤ p c) ≤ℤ pos 0
  met_low k s p q = rows_low (width v (ways k)) (length (met_rows (ways k))) (λ i. get_or xs (s + i) (pos 0)) (row_of (ways k)) p (λ i l. positive (s + i)) q.meets

  slack_not_under : (k s : ℕ) (p : Option ℕ → ℤ) → IsPoint v (ways k) p → pos 0 ≤ℤ (slack_of (ways k) xs s *ℤ p None)
  slack_not_under k s p q = not_under_times (slack_of (ways k) xs s) (p None) (positive (s + length (met_rows (ways k)))) (let l = q.positive in omega (arith, ints, l))

  term_before : (k j : ℕ) (p : Option ℕ → ℤ) → over (width v (ways k)) (λ c. held k j c *ℤ p c) ≡ before_at v (numbers j) (ways k) p
  term_before k j p =
      let f = read_at ways many d v xs j (ways k).taken.from in
      over-same (width v (ways k)) (λ c. number c f *ℤ p c) (λ c. over v (λ m. unit_at m c *ℤ number m f) *ℤ p c) (λ c l. ap (λ z. z *ℤ p c) (sym (unit-number v c f (term_width v locations many d ways xs j (ways k).taken.from))))
      ∙ numbers_there (width v (ways k)) v unit_at (λ m. number m f) p

  term_after : (k j : ℕ) (p : Option ℕ → ℤ) → over (width v (ways k)) (λ c. changed v locations many d ways xs k j c *ℤ p c) ≡ after_at v (numbers j) (ways k) p
  term_after k j p =
      let f = read_at ways many d v xs j (ways k).taken.to in
      over-same (width v (ways k)) (λ c. known_number (composed (given f) (terms_after v (ways k).taken.updates)) c *ℤ p c) (λ c. over v (λ m. after (ways k).taken m c *ℤ number m f) *ℤ p c) (λ c l. ap (λ z. z *ℤ p c) (sym (after-number v c f (ways k))))
      ∙ numbers_there (width v (ways k)) v (after (ways k).taken) (λ m. number m f) p

  term_earlier : (k i : ℕ) (p : Option ℕ → ℤ) → over (width v (ways k)) (λ c. number c (before v locations many d ways xs k i) *ℤ p c) ≡ earlier_at v numbers i (ways k) p
  term_earlier k zero p = (let z = total-zero (width v (ways k)) (λ c. pos 0 *ℤ p (Some c)) (λ c l. omega (arith, ints)) in omega (arith, ints, z))
  term_earlier k (suc j) p = term_before k j p

  -- how a term and the one before it change over a way
  changes : (k j : ℕ) (p : Option ℕ → ℤ) → k < many → j < d → IsPoint v (ways k) p → (change_at v (numbers j) (ways k) p -ℤ earlier_at v numbers j (ways k) p) ≤ℤ neg_ℤ (scale *ℤ p None)
  changes k j p k_in j_in q =
      let n = width v (ways k) in
      let a = changed v locations many d ways xs k j in
      let b = λ (c : Option ℕ). held k j c in
      let e = λ (c : Option ℕ). number c (before v locations many d ways xs k j) in
      let r = rows_sum (ways k) xs (start k j) in
      let s = slack_of (ways k) xs (start k j) in
      let sides = sides_there n a (λ c. b c +ℤ e c) (unit_at None) r s p in
      let same = over-same n (λ c. ((a c -ℤ (b c +ℤ e c)) +ℤ (unit_at None c *ℤ s -ℤ r c)) *ℤ p c) (λ c. (scale *ℤ right_of d (identity k j) c) *ℤ p c) (λ c l. ap (λ z. z *ℤ p c) (let w = step_equation k j c k_in j_in l in let t : (a c -ℤ (b c +ℤ e c)) +ℤ (unit_at None c *ℤ s -ℤ r c) ≡ ((a c -ℤ b c) -ℤ e c) +ℤ (unit_at None c *ℤ s -ℤ r c) = omega (arith, ints) in t ∙ w)) in
      let right = right_there n scale (right_of d (identity k j)) p (λ m. refl) in
      let fall = ap (λ z. (scale *ℤ z) *ℤ p None) (right_in d j j_in) ∙ scaled_fall (p None) in
      let parts = over-same n (λ c. (b c +ℤ e c) *ℤ p c) (λ c. b c *ℤ p c +ℤ e c *ℤ p c) (λ c l. distribute_right_z (b c) (e c) (p c)) ∙ over-add n (λ c. b c *ℤ p c) (λ c. e c *ℤ p c) in
      let one = term_after k j p in
      let two = term_before k j p in
      let three = term_earlier k j p in
      let unit = ap (λ z. s *ℤ z) (unit_times n None p tt) in
      let low = met_low k (start k j) p q in
      let slack = slack_not_under k (start k j) p q in
      omega (arith, ints, sides, same, right, fall, parts, one, two, three, unit, low, slack)
    where
      scaled_fall : (z : ℤ) → (scale *ℤ neg_ℤ (pos 1)) *ℤ z ≡ neg_ℤ (scale *ℤ z)
      scaled_fall z = ap (λ y. y *ℤ z) (let e : scale *ℤ neg_ℤ (pos 1) ≡ neg_ℤ scale = omega (arith, ints) in e) ∙ neg_times_z scale z

  falls_by_one : (k j : ℕ) (p : Option ℕ → ℤ) → k < many → j < d → IsPoint v (ways k) p → fall_at v numbers j (ways k) p ≤ℤ pos 0
  falls_by_one k j p k_in j_in q =
      let c = changes k j p k_in j_in q in
      let l = q.positive in
      let s = h.positive in
      let m = not_under_times (scale -ℤ pos 1) (p None) (omega (arith, ints, s)) (omega (arith, ints, l)) in
      let e = less_times scale (pos 1) (p None) in
      omega (arith, ints, c, m, e)

  not_below : (k : ℕ) (p : Option ℕ → ℤ) → k < many → IsPoint v (ways k) p → pos 0 ≤ℤ earlier_at v numbers d (ways k) p
  not_below k p k_in q =
      let n = width v (ways k) in
      let e = λ (c : Option ℕ). number c (before v locations many d ways xs k d) in
      let r = rows_sum (ways k) xs (start k d) in
      let s = slack_of (ways k) xs (start k d) in
      let sides = sides_there n (λ c. pos 0) e (unit_at None) r s p in
      let same = over-same n (λ c. ((pos 0 -ℤ e c) +ℤ (unit_at None c *ℤ s -ℤ r c)) *ℤ p c) (λ c. (scale *ℤ right_of d (identity k d) c) *ℤ p c) (λ c l. ap (λ z. z *ℤ p c) (let w = end_equation k c k_in l in let t : (pos 0 -ℤ e c) +ℤ (unit_at None c *ℤ s -ℤ r c) ≡ neg_ℤ (e c) +ℤ (unit_at None c *ℤ s -ℤ r c) = omega (arith, ints) in t ∙ w)) in
      let right = right_there n scale (right_of d (identity k d)) p (λ m. refl) in
      let none = total-zero n (λ c. pos 0 *ℤ p (Some c)) (λ c l. omega (arith, ints)) in
      let zero : (scale *ℤ right_of d (identity k d) None) *ℤ p None ≡ pos 0 = ap (λ z. (scale *ℤ z) *ℤ p None) (right_last d) ∙ ap (λ y. y *ℤ p None) (let z : scale *ℤ pos 0 ≡ pos 0 = omega (arith, ints) in z) ∙ omega (arith, ints) in
      let two = term_earlier k d p in
      let unit = ap (λ z. s *ℤ z) (unit_times n None p tt) in
      let low = met_low k (start k d) p q in
      let slack = slack_not_under k (start k d) p q in
      omega (arith, ints, sides, same, right, none, zero, two, unit, low, slack)

  pub nested_there : NestedAt v d many ways numbers
  nested_there = record {
    falls = λ k k_in j j_in p q. falls_by_one k j p k_in j_in q;
    bounded = λ k k_in p q. not_below k p k_in q;
  }

-- ---- tuples at points are tuples in lists
module _ (v d many : ℕ) (ways : ℕ → Way) (tuple : List (List Linear)) (wide : (j l : ℕ) → columns (term_at (terms_of tuple j) l) ≤ v) where
  earlier_pointed : (j : ℕ) (w : Way) (xs : List ℤ) (z : ℤ) → length xs ≡ width v w → earlier tuple j w xs z ≡ earlier_at v (λ j. numbers_at (terms_of tuple j)) j w (point_of xs z)
  earlier_pointed zero w xs z e = refl
  earlier_pointed (suc j) w xs z e = before_pointed v (terms_of tuple j) w xs z (wide j w.taken.from) e

  pub nested_listed : NestedAt v d many ways (λ j. numbers_at (terms_of tuple j)) → IsNested v d many ways tuple
  nested_listed h = record {
    falls = λ k k_in j j_in xs z q.
        let w = ways k in
        let f = h.falls k k_in j j_in (point_of xs z) (pointed_at v w xs z q) in
        let a = after_pointed v (terms_of tuple j) w xs z q.width in
        let b = before_pointed v (terms_of tuple j) w xs z (wide j w.taken.from) q.width in
        let e = earlier_pointed j w xs z q.width in
        omega (arith, ints, f, a, b, e);
    bounded = λ k k_in xs z q.
        let w = ways k in
        let f = h.bounded k k_in (point_of xs z) (pointed_at v w xs z q) in
        let e = earlier_pointed d w xs z q.width in
        omega (arith, ints, f, e);
  }
