use Rattle.std.proofs.Common.{[], ◌≡◌, ℕ, zero, suc, inl, inr, ◌+◌, ◌<◌, Option, None, Some, Bool, true, false, ◌==◌, ◌||◌, if◌then◌else◌, length, get_or, arith, refl, sym, ap, ◌∙◌, ℤ, pos, neg_ℤ, ◌+ℤ◌, ◌-ℤ◌, ◌*ℤ◌, ◌<ℤ◌, ◌≤ℤ◌}
use Rattle.std.proofs.lemmas.Int.{ints}
use Rattle.tv_linear.proofs.Ring.{neg_times_z}
use Rattle.tv_linear.specs.Linear.{linear}
use Rattle.tv_linear.specs.Known.{number}
use Rattle.tv_linear.proofs.ListLaws.{same_or_below}
use Rattle.tv_simplex.specs.Sums.{total}
use Rattle.tv_simplex.proofs.Sums.{total-same, total-less, total-times, total-zero, total-swap}
use Rattle.tv_simplex.proofs.Ring.{times_less, less_times, times_zero}
use Rattle.tv_rank.specs.declared.unknown.Identity.{Identity}
use Rattle.tv_rank.specs.declared.unknown.Identity.TheVariants.{Step, Bound}
use Rattle.tv_rank.specs.declared.unknown.Unknown.{Unknown}
use Rattle.tv_rank.specs.declared.unknown.Unknown.TheVariants.{Positive, Negative, Multiplier, Slack}
use Rattle.tv_rank.specs.declared.unknown.Line.{Line}
use Rattle.tv_rank.specs.Ways.{Way, met_rows, touches}
use Rattle.tv_rank.specs.RankingSystem.{unit_at, after, entered, left, entry, right_of}
use Rattle.tv_rank.proofs.Over.{over, Inside, over-same, over-less, over-zero, over-neg, over-total, if_false, picked, unit_times, opposite_is}
use Rattle.std.proofs.lemmas.Bool.{cases_eq, or_parts, eq-eqb, ne_eqb}

abbrev pub line : Identity → Option ℕ → Line
line id c = record { identity = id; column = c }

abbrev pub row_of : Way → ℕ → Option ℕ → ℤ
row_of w i c = number c (get_or (met_rows w) i (linear [] (pos 0)))

-- the numbers of a point for each column, and its scale for the constant
abbrev pub value : ℕ → (Option ℕ → ℤ) → (Option ℕ → ℤ) → ℤ
value n row p = over n (λ c. row c *ℤ p c)

abbrev pub width : ℕ → Way → ℕ
width v w = v + w.taken.draws

abbrev pub Meets : ℕ → Way → (Option ℕ → ℤ) → Type 0
Meets v w p = (i : ℕ) → i < length (met_rows w) → value (width v w) (row_of w i) p ≤ℤ pos 0

-- what a number of the terms is before and after a way at a point
abbrev pub there_before : ℕ → Way → (Option ℕ → ℤ) → Option ℕ → ℤ
there_before v w p m = value (width v w) (unit_at m) p

abbrev pub there_after : ℕ → Way → (Option ℕ → ℤ) → Option ℕ → ℤ
there_after v w p m = value (width v w) (after w.taken m) p

-- the terms, by location, before and after a way at a point
abbrev pub before_at : ℕ → (ℕ → Option ℕ → ℤ) → Way → (Option ℕ → ℤ) → ℤ
before_at v f w p = over v (λ m. f w.taken.from m *ℤ there_before v w p m)

abbrev pub after_at : ℕ → (ℕ → Option ℕ → ℤ) → Way → (Option ℕ → ℤ) → ℤ
after_at v f w p = over v (λ m. f w.taken.to m *ℤ there_after v w p m)

-- a barrier, read as numbers for each way, and as further ones for the falling way
pub record Balance (v many : ℕ) (ways : ℕ → Way) (falling : ℕ) (p : ℕ → Option ℕ → ℤ) (q : Option ℕ → ℤ) : Type 0 where
  pub meets : (k : ℕ) → k < many → Meets v (ways k) (p k)
  pub not_under : (k : ℕ) → k < many → pos 0 ≤ℤ p k None
  pub last_meets : Meets v (ways falling) q
  pub last_not_under : pos 0 ≤ℤ q None
  pub above : pos 0 <ℤ p falling None
  pub balance : (f : ℕ → Option ℕ → ℤ) → total many (λ k. after_at v f (ways k) (p k) -ℤ before_at v f (ways k) (p k)) ≡ before_at v f (ways falling) q

-- ---- one place that counts
turned : (a b : ℕ) → (a == b) ≡ (b == a)
turned a b = elim (cases_eq a b) [ inl e ↦ eq-eqb a b e ∙ sym (eq-eqb b a (sym e)) | inr n ↦ ne_eqb a b n ∙ sym (ne_eqb b a (λ e. n (sym e))) ]

pub picked_turned : (n t : ℕ) (g : ℕ → ℤ) → t < n → total n (λ l. if l == t then g l else pos 0) ≡ g t
picked_turned n t g h = total-same n (λ l. if l == t then g l else pos 0) (λ l. if t == l then g l else pos 0) (λ l k. ap (λ b. if b then g l else pos 0) (turned l t)) ∙ picked n t g h

pub over_put : (b : Bool) (n : ℕ) (x p : Option ℕ → ℤ) → over n (λ c. (if b then x c else pos 0) *ℤ p c) ≡ (if b then over n (λ c. x c *ℤ p c) else pos 0)
over_put true n x p = refl
over_put false n x p = over-zero n (λ c. pos 0 *ℤ p c) (λ c l. omega (arith, ints))

pub over_kept : (b : Bool) (n : ℕ) (f x : Option ℕ → ℤ) → over n (λ c. f c *ℤ (if b then x c else pos 0)) ≡ (if b then over n (λ c. f c *ℤ x c) else pos 0)
over_kept true n f x = refl
over_kept false n f x = over-zero n (λ c. f c *ℤ pos 0) (λ c l. omega (arith, ints))

pub over_opposite : (n : ℕ) (x p : Option ℕ → ℤ) → over n (λ c. neg_ℤ (x c) *ℤ p c) ≡ neg_ℤ (over n (λ c. x c *ℤ p c))
over_opposite n x p = over-neg n (λ c. neg_ℤ (x c) *ℤ p c) (λ c. x c *ℤ p c) (λ c l. neg_times_z (x c) (p c))

pub over_none : (n : ℕ) (p : Option ℕ → ℤ) → over n (λ c. pos 0 *ℤ p c) ≡ pos 0
over_none n p = over-zero n (λ c. pos 0 *ℤ p c) (λ c l. omega (arith, ints))

pub untouched : (ways : ℕ → Way) (many k l : ℕ) → touches ways many l ≡ false → k < many → ((ways k).taken.from == l || (ways k).taken.to == l) ≡ false
untouched ways zero k l e h = absurd (omega (arith, h))
untouched ways (suc m) k l e h = elim (same_or_below m k h) [
  | inl s ↦ ap (λ z. (ways z).taken.from == l || (ways z).taken.to == l) s ∙ (or_parts (touches ways m l) ((ways m).taken.from == l || (ways m).taken.to == l) e).1
  | inr b ↦ untouched ways m k l (or_parts (touches ways m l) ((ways m).taken.from == l || (ways m).taken.to == l) e).0 b
]

module _ (v locations many : ℕ) (ways : ℕ → Way) (falling : ℕ) (falling_in : falling < many) (p : ℕ → Option ℕ → ℤ) (q : Option ℕ → ℤ) where
  -- what the rows of the system, each times its number, add up to
  abbrev pub row_sum : (Identity → Option ℕ → ℤ) → ℤ
  row_sum g = total many (λ k. over (width v (ways k)) (λ c. g (Step k) c *ℤ p k c)) +ℤ over (width v (ways falling)) (λ c. g Bound c *ℤ q c)

  abbrev pub column_sum : Unknown → ℤ
  column_sum u = row_sum (λ id c. entry ways falling (line id c) u)

  -- an unknown of one step
  one_step : (k : ℕ) → k < many → (x : ℕ → Option ℕ → ℤ) → row_sum (λ id c. elim id [ Step m ↦ if k == m then x m c else pos 0 | Bound ↦ pos 0 ]) ≡ over (width v (ways k)) (λ c. x k c *ℤ p k c)
  one_step k l x =
      let a = total-same many (λ m. over (width v (ways m)) (λ c. (if k == m then x m c else pos 0) *ℤ p m c)) (λ m. if k == m then over (width v (ways m)) (λ c. x m c *ℤ p m c) else pos 0) (λ m g. over_put (k == m) (width v (ways m)) (x m) (p m)) in
      let b = picked many k (λ m. over (width v (ways m)) (λ c. x m c *ℤ p m c)) l in
      let z = over_none (width v (ways falling)) q in
      omega (arith, ints, a, b, z)

  -- an unknown of the bound
  of_bound : (x : Option ℕ → ℤ) → row_sum (λ id c. elim id [ Step m ↦ pos 0 | Bound ↦ x c ]) ≡ over (width v (ways falling)) (λ c. x c *ℤ q c)
  of_bound x =
      let a = total-zero many (λ m. over (width v (ways m)) (λ c. pos 0 *ℤ p m c)) (λ m g. over_none (width v (ways m)) (p m)) in
      omega (arith, ints, a)

  pub multiplier_sum : (k i : ℕ) → k < many → column_sum (Multiplier (Step k) i) ≡ neg_ℤ (value (width v (ways k)) (row_of (ways k) i) (p k))
  multiplier_sum k i l = one_step k l (λ m c. neg_ℤ (row_of (ways m) i c)) ∙ over_opposite (width v (ways k)) (row_of (ways k) i) (p k)

  pub slack_sum : (k : ℕ) → k < many → column_sum (Slack (Step k)) ≡ p k None
  slack_sum k l = one_step k l (λ m c. unit_at None c) ∙ unit_times (width v (ways k)) None (p k) tt

  pub last_multiplier_sum : (i : ℕ) → column_sum (Multiplier Bound i) ≡ neg_ℤ (value (width v (ways falling)) (row_of (ways falling) i) q)
  last_multiplier_sum i = of_bound (λ c. neg_ℤ (row_of (ways falling) i c)) ∙ over_opposite (width v (ways falling)) (row_of (ways falling) i) q

  pub last_slack_sum : column_sum (Slack Bound) ≡ q None
  last_slack_sum = of_bound (λ c. unit_at None c) ∙ unit_times (width v (ways falling)) None q tt

  pub right_sum : row_sum (right_of falling) ≡ neg_ℤ (p falling None)
  right_sum =
      let a = total-same many (λ k. over (width v (ways k)) (λ c. right_of falling (Step k) c *ℤ p k c)) (λ k. if k == falling then neg_ℤ (p k None) else pos 0) (λ k g. one (k == falling) (width v (ways k)) (p k)) in
      let b = picked_turned many falling (λ k. neg_ℤ (p k None)) falling_in in
      let z = over_none (width v (ways falling)) q in
      omega (arith, ints, a, b, z)
    where
      one : (b : Bool) (n : ℕ) (x : Option ℕ → ℤ) → (total n (λ c. pos 0 *ℤ x (Some c)) +ℤ (if b then neg_ℤ (pos 1) else pos 0) *ℤ x None) ≡ (if b then neg_ℤ (x None) else pos 0)
      one true n x = (let z = total-zero n (λ c. pos 0 *ℤ x (Some c)) (λ c l. omega (arith, ints)) in omega (arith, ints, z))
      one false n x = (let z = total-zero n (λ c. pos 0 *ℤ x (Some c)) (λ c l. omega (arith, ints)) in omega (arith, ints, z))

  -- ---- the numbers of the terms
  abbrev pub put_after : ℕ → Option ℕ → ℕ → ℤ
  put_after l m k = if (ways k).taken.to == l then there_after v (ways k) (p k) m else pos 0

  abbrev pub put_before : ℕ → Option ℕ → ℕ → ℤ
  put_before l m k = if (ways k).taken.from == l then there_before v (ways k) (p k) m else pos 0

  abbrev pub put_last : ℕ → Option ℕ → ℤ
  put_last l m = if (ways falling).taken.from == l then there_before v (ways falling) q m else pos 0

  abbrev pub term_sum : ℕ → Option ℕ → ℤ
  term_sum l m = total many (λ k. put_after l m k -ℤ put_before l m k) -ℤ put_last l m

  pub positive_sum : (l : ℕ) (m : Option ℕ) → column_sum (Positive l m) ≡ term_sum l m
  positive_sum l m =
      let a = total-same many (λ k. over (width v (ways k)) (λ c. (entered (ways k).taken l m c -ℤ left (ways k).taken l m c) *ℤ p k c)) (λ k. put_after l m k -ℤ put_before l m k) (λ k g. one k) in
      let b = over_opposite (width v (ways falling)) (λ c. left (ways falling).taken l m c) q in
      let d = over_put ((ways falling).taken.from == l) (width v (ways falling)) (unit_at m) q in
      omega (arith, ints, a, b, d)
    where
      one : (k : ℕ) → over (width v (ways k)) (λ c. (entered (ways k).taken l m c -ℤ left (ways k).taken l m c) *ℤ p k c) ≡ put_after l m k -ℤ put_before l m k
      one k =
          over-same (width v (ways k)) (λ c. (entered (ways k).taken l m c -ℤ left (ways k).taken l m c) *ℤ p k c) (λ c. entered (ways k).taken l m c *ℤ p k c -ℤ left (ways k).taken l m c *ℤ p k c) (λ c h. less_times (entered (ways k).taken l m c) (left (ways k).taken l m c) (p k c))
          ∙ over-less (width v (ways k)) (λ c. entered (ways k).taken l m c *ℤ p k c) (λ c. left (ways k).taken l m c *ℤ p k c)
          ∙ (λ i. over_put ((ways k).taken.to == l) (width v (ways k)) (after (ways k).taken m) (p k) i -ℤ over_put ((ways k).taken.from == l) (width v (ways k)) (unit_at m) (p k) i)

  pub negative_sum : (l : ℕ) (m : Option ℕ) → column_sum (Negative l m) ≡ neg_ℤ (column_sum (Positive l m))
  negative_sum l m =
      let a = total-same many (λ k. over (width v (ways k)) (λ c. entry ways falling (line (Step k) c) (Negative l m) *ℤ p k c)) (λ k. pos 0 -ℤ over (width v (ways k)) (λ c. entry ways falling (line (Step k) c) (Positive l m) *ℤ p k c)) (λ k g. over_opposite (width v (ways k)) (λ c. entry ways falling (line (Step k) c) (Positive l m)) (p k) ∙ opposite_is (over (width v (ways k)) (λ c. entry ways falling (line (Step k) c) (Positive l m) *ℤ p k c))) in
      let b = total-less many (λ k. pos 0) (λ k. over (width v (ways k)) (λ c. entry ways falling (line (Step k) c) (Positive l m) *ℤ p k c)) in
      let z = total-zero many (λ k. pos 0) (λ k g. refl) in
      let d = over_opposite (width v (ways falling)) (λ c. entry ways falling (line Bound c) (Positive l m)) q in
      omega (arith, ints, a, b, z, d)

  module _ (from_in : (k : ℕ) → k < many → (ways k).taken.from < locations) (to_in : (k : ℕ) → k < many → (ways k).taken.to < locations) (terms : (l : ℕ) (m : Option ℕ) → l < locations → touches ways many l ≡ true → Inside v m → (pos 0 ≤ℤ column_sum (Positive l m)) × (pos 0 ≤ℤ column_sum (Negative l m))) where
    term_zero : (l : ℕ) (m : Option ℕ) → l < locations → Inside v m → term_sum l m ≡ pos 0
    term_zero l m h g = by_touch (touches ways many l) refl
      where
        by_touch : (b : Bool) → touches ways many l ≡ b → term_sum l m ≡ pos 0
        by_touch true e =
            let t = terms l m h e g in
            let a = t.0 in
            let b = t.1 in
            let n = negative_sum l m in
            let s = positive_sum l m in
            omega (arith, ints, a, b, n, s)
        by_touch false e =
            let each = total-zero many (λ k. put_after l m k -ℤ put_before l m k) (λ k k_in.
            let u = untouched ways many k l e k_in in
            let x = if_false ((ways k).taken.to == l) (there_after v (ways k) (p k) m) (pos 0) (or_parts ((ways k).taken.from == l) ((ways k).taken.to == l) u).1 in
            let y = if_false ((ways k).taken.from == l) (there_before v (ways k) (p k) m) (pos 0) (or_parts ((ways k).taken.from == l) ((ways k).taken.to == l) u).0 in
            omega (arith, ints, x, y)) in
            let u = untouched ways many falling l e falling_in in
            let y = if_false ((ways falling).taken.from == l) (there_before v (ways falling) q m) (pos 0) (or_parts ((ways falling).taken.from == l) ((ways falling).taken.to == l) u).0 in
            omega (arith, ints, each, y)

    pub balanced : (f : ℕ → Option ℕ → ℤ) → total many (λ k. after_at v f (ways k) (p k) -ℤ before_at v f (ways k) (p k)) ≡ before_at v f (ways falling) q
    balanced f =
        let zero_sum = total-zero locations (λ l. over v (λ m. f l m *ℤ term_sum l m)) (λ l l_in. over-zero v (λ m. f l m *ℤ term_sum l m) (λ m g. times_zero (f l m) (term_sum l m) (term_zero l m l_in g))) in
        let spread = total-same locations (λ l. over v (λ m. f l m *ℤ term_sum l m)) (λ l. total many (λ k. grown l k -ℤ shrunk l k) -ℤ final l) (λ l l_in. at_location l) in
        let apart = total-less locations (λ l. total many (λ k. grown l k -ℤ shrunk l k)) final in
        let turn = total-swap locations many (λ l k. grown l k -ℤ shrunk l k) in
        let each = total-same many (λ k. total locations (λ l. grown l k -ℤ shrunk l k)) (λ k. after_at v f (ways k) (p k) -ℤ before_at v f (ways k) (p k)) (λ k k_in. at_place k k_in) in
        let end = picked locations (ways falling).taken.from (λ l. over v (λ m. f l m *ℤ there_before v (ways falling) q m)) (from_in falling falling_in) in
        omega (arith, ints, zero_sum, spread, apart, turn, each, end)
      where
        grown : ℕ → ℕ → ℤ
        grown l k = if (ways k).taken.to == l then over v (λ m. f l m *ℤ there_after v (ways k) (p k) m) else pos 0

        shrunk : ℕ → ℕ → ℤ
        shrunk l k = if (ways k).taken.from == l then over v (λ m. f l m *ℤ there_before v (ways k) (p k) m) else pos 0

        final : ℕ → ℤ
        final l = if (ways falling).taken.from == l then over v (λ m. f l m *ℤ there_before v (ways falling) q m) else pos 0

        one : (l k : ℕ) → over v (λ m. f l m *ℤ (put_after l m k -ℤ put_before l m k)) ≡ grown l k -ℤ shrunk l k
        one l k =
            over-same v (λ m. f l m *ℤ (put_after l m k -ℤ put_before l m k)) (λ m. f l m *ℤ put_after l m k -ℤ f l m *ℤ put_before l m k) (λ m g. times_less (f l m) (put_after l m k) (put_before l m k))
            ∙ over-less v (λ m. f l m *ℤ put_after l m k) (λ m. f l m *ℤ put_before l m k)
            ∙ (λ i. over_kept ((ways k).taken.to == l) v (f l) (there_after v (ways k) (p k)) i -ℤ over_kept ((ways k).taken.from == l) v (f l) (there_before v (ways k) (p k)) i)

        at_location : (l : ℕ) → over v (λ m. f l m *ℤ term_sum l m) ≡ total many (λ k. grown l k -ℤ shrunk l k) -ℤ final l
        at_location l =
            over-same v (λ m. f l m *ℤ term_sum l m) (λ m. total many (λ k. f l m *ℤ (put_after l m k -ℤ put_before l m k)) -ℤ f l m *ℤ put_last l m) (λ m g. times_less (f l m) (total many (λ k. put_after l m k -ℤ put_before l m k)) (put_last l m) ∙ ap (λ z. z -ℤ f l m *ℤ put_last l m) (sym (total-times many (f l m) (λ k. put_after l m k -ℤ put_before l m k))))
            ∙ over-less v (λ m. total many (λ k. f l m *ℤ (put_after l m k -ℤ put_before l m k))) (λ m. f l m *ℤ put_last l m)
            ∙ (λ i. (over-total v many (λ m k. f l m *ℤ (put_after l m k -ℤ put_before l m k)) ∙ total-same many (λ k. over v (λ m. f l m *ℤ (put_after l m k -ℤ put_before l m k))) (λ k. grown l k -ℤ shrunk l k) (λ k g. one l k)) i
            -ℤ over_kept ((ways falling).taken.from == l) v (f l) (there_before v (ways falling) q) i)

        at_place : (k : ℕ) → k < many → total locations (λ l. grown l k -ℤ shrunk l k) ≡ after_at v f (ways k) (p k) -ℤ before_at v f (ways k) (p k)
        at_place k k_in =
            total-less locations (λ l. grown l k) (λ l. shrunk l k)
            ∙ (λ i. picked locations (ways k).taken.to (λ l. over v (λ m. f l m *ℤ there_after v (ways k) (p k) m)) (to_in k k_in) i
            -ℤ picked locations (ways k).taken.from (λ l. over v (λ m. f l m *ℤ there_before v (ways k) (p k) m)) (from_in k k_in) i)
