-- The columns of the nested system: a barrier, read as numbers for each identity, balances every tuple of terms.
use Rattle.std.proofs.Common.{◌≡◌, ℕ, suc, ◌<◌, Option, None, Some, Bool, true, false, ◌==◌, ◌&&◌, if◌then◌else◌, arith, refl, sym, ap, ◌∙◌, ℤ, pos, neg_ℤ, ◌+ℤ◌, ◌-ℤ◌, ◌*ℤ◌, ◌≤ℤ◌}
use Rattle.std.proofs.lemmas.Int.{ints}
use Rattle.std.proofs.lemmas.Bool.{or_parts, eq-eqb, ne_eqb}
use Rattle.tv_linear.proofs.Ring.{distribute_right_z}
use Rattle.tv_simplex.specs.Sums.{total}
use Rattle.tv_simplex.proofs.Sums.{total-same, total-less, total-add, total-times, total-zero, total-swap}
use Rattle.tv_simplex.proofs.Ring.{times_less, less_times, times_zero}
use Rattle.tv_rank.specs.Ways.{Way, touches}
use Rattle.tv_rank.specs.RankingSystem.{unit_at, after, entered, left}
use Rattle.tv_rank.proofs.Over.{over, Inside, over-same, over-less, over-add, over-zero, over-total, if_false, picked, unit_times, opposite_is}
use Rattle.tv_rank.proofs.Barriers.{value, width, row_of, there_before, there_after, before_at, picked_turned, over_put, over_kept, over_opposite, untouched}
use Rattle.tv_rank.proofs.Excluded.{change_at}
use Rattle.tv_nested.specs.declared.unknown.Identity.{Identity}
use Rattle.tv_nested.specs.declared.unknown.Unknown.{Unknown}
use Rattle.tv_nested.specs.declared.unknown.Unknown.TheVariants.{Positive, Negative, Multiplier, Slack}
use Rattle.tv_nested.specs.NestedSystem.{identity, line, entry, right_of}

-- ---- tests
pub if_both : (a b : Bool) (x : ℤ) → (if a && b then x else pos 0) ≡ (if a then (if b then x else pos 0) else pos 0)
if_both true b x = refl
if_both false b x = refl

if_zero : (b : Bool) → (if b then pos 0 else pos 0) ≡ pos 0
if_zero true = refl
if_zero false = refl

-- a sum of two tests is a test of each
pub over_two : (a b : Bool) (n : ℕ) (x y p : Option ℕ → ℤ) → over n (λ c. ((if a then x c else pos 0) +ℤ (if b then y c else pos 0)) *ℤ p c) ≡ (if a then over n (λ c. x c *ℤ p c) else pos 0) +ℤ (if b then over n (λ c. y c *ℤ p c) else pos 0)
over_two a b n x y p =
    over-same n (λ c. ((if a then x c else pos 0) +ℤ (if b then y c else pos 0)) *ℤ p c) (λ c. (if a then x c else pos 0) *ℤ p c +ℤ (if b then y c else pos 0) *ℤ p c) (λ c l. distribute_right_z (if a then x c else pos 0) (if b then y c else pos 0) (p c))
    ∙ over-add n (λ c. (if a then x c else pos 0) *ℤ p c) (λ c. (if b then y c else pos 0) *ℤ p c)
    ∙ (λ i. over_put a n x p i +ℤ over_put b n y p i)

module _ (v d many : ℕ) (ways : ℕ → Way) (p : ℕ → ℕ → Option ℕ → ℤ) where
  -- what the rows of the system, each times its number, add up to
  abbrev pub row_sum : (Identity → Option ℕ → ℤ) → ℤ
  row_sum g = total many (λ k. total (suc d) (λ i. over (width v (ways k)) (λ c. g (identity k i) c *ℤ p k i c)))

  abbrev pub column_sum : Unknown → ℤ
  column_sum u = row_sum (λ id c. entry ways (line id c) u)

  -- an unknown of one identity
  one_identity : (k i : ℕ) → k < many → i < suc d → (x : ℕ → ℕ → Option ℕ → ℤ) → row_sum (λ id c. if k == id.place && i == id.index then x id.place id.index c else pos 0) ≡ over (width v (ways k)) (λ c. x k i c *ℤ p k i c)
  one_identity k i k_in i_in x =
      total-same many (λ m. total (suc d) (λ n. over (width v (ways m)) (λ c. (if k == m && i == n then x m n c else pos 0) *ℤ p m n c))) (λ m. if k == m then over (width v (ways m)) (λ c. x m i c *ℤ p m i c) else pos 0) (λ m g. of_way m)
      ∙ picked many k (λ m. over (width v (ways m)) (λ c. x m i c *ℤ p m i c)) k_in
    where
      spread : (a : Bool) (m : ℕ) → total (suc d) (λ n. if a then (if i == n then over (width v (ways m)) (λ c. x m n c *ℤ p m n c) else pos 0) else pos 0) ≡ (if a then over (width v (ways m)) (λ c. x m i c *ℤ p m i c) else pos 0)
      spread true m = picked (suc d) i (λ n. over (width v (ways m)) (λ c. x m n c *ℤ p m n c)) i_in
      spread false m = total-zero (suc d) (λ n. pos 0) (λ n l. refl)

      of_way : (m : ℕ) → total (suc d) (λ n. over (width v (ways m)) (λ c. (if k == m && i == n then x m n c else pos 0) *ℤ p m n c)) ≡ (if k == m then over (width v (ways m)) (λ c. x m i c *ℤ p m i c) else pos 0)
      of_way m =
          total-same (suc d) (λ n. over (width v (ways m)) (λ c. (if k == m && i == n then x m n c else pos 0) *ℤ p m n c)) (λ n. if k == m then (if i == n then over (width v (ways m)) (λ c. x m n c *ℤ p m n c) else pos 0) else pos 0) (λ n g. over_put (k == m && i == n) (width v (ways m)) (x m n) (p m n) ∙ if_both (k == m) (i == n) (over (width v (ways m)) (λ c. x m n c *ℤ p m n c)))
          ∙ spread (k == m) m

  pub multiplier_sum : (k i m : ℕ) → k < many → i < suc d → column_sum (Multiplier (identity k i) m) ≡ neg_ℤ (value (width v (ways k)) (row_of (ways k) m) (p k i))
  multiplier_sum k i m k_in i_in = one_identity k i k_in i_in (λ a b c. neg_ℤ (row_of (ways a) m c)) ∙ over_opposite (width v (ways k)) (row_of (ways k) m) (p k i)

  pub slack_sum : (k i : ℕ) → k < many → i < suc d → column_sum (Slack (identity k i)) ≡ p k i None
  slack_sum k i k_in i_in = one_identity k i k_in i_in (λ a b c. unit_at None c) ∙ unit_times (width v (ways k)) None (p k i) tt

  pub right_sum : row_sum (right_of d) ≡ neg_ℤ (total many (λ k. total d (λ i. p k i None)))
  right_sum =
      let a = total-same many (λ k. total (suc d) (λ i. over (width v (ways k)) (λ c. right_of d (identity k i) c *ℤ p k i c))) (λ k. pos 0 -ℤ total d (λ i. p k i None)) (λ k g. of_way k) in
      let b = total-less many (λ k. pos 0) (λ k. total d (λ i. p k i None)) in
      let z = total-zero many (λ k. pos 0) (λ k g. refl) in
      omega (arith, ints, a, b, z)
    where
      one : (t : Bool) (n : ℕ) (x : Option ℕ → ℤ) → over n (λ c. elim c [ None ↦ (if t then pos 0 else neg_ℤ (pos 1)) | Some j ↦ pos 0 ] *ℤ x c) ≡ (if t then pos 0 else neg_ℤ (x None))
      one true n x = (let z = total-zero n (λ c. pos 0 *ℤ x (Some c)) (λ c l. omega (arith, ints)) in omega (arith, ints, z))
      one false n x = (let z = total-zero n (λ c. pos 0 *ℤ x (Some c)) (λ c l. omega (arith, ints)) in omega (arith, ints, z))

      at_identity : (k i : ℕ) → over (width v (ways k)) (λ c. right_of d (identity k i) c *ℤ p k i c) ≡ (if i == d then pos 0 else neg_ℤ (p k i None))
      at_identity k i = one (i == d) (width v (ways k)) (p k i)

      of_way : (k : ℕ) → total (suc d) (λ i. over (width v (ways k)) (λ c. right_of d (identity k i) c *ℤ p k i c)) ≡ pos 0 -ℤ total d (λ i. p k i None)
      of_way k =
          let a = total-same d (λ i. over (width v (ways k)) (λ c. right_of d (identity k i) c *ℤ p k i c)) (λ i. pos 0 -ℤ p k i None) (λ i i_in. at_identity k i ∙ if_else (i == d) (p k i None) (ne_eqb i d (λ e. omega (arith, e, i_in)))) in
          let b = total-less d (λ i. pos 0) (λ i. p k i None) in
          let z = total-zero d (λ i. pos 0) (λ i g. refl) in
          let last = at_identity k d ∙ if_then (d == d) (p k d None) (eq-eqb d d refl) in
          omega (arith, ints, a, b, z, last)
        where
          if_else : (t : Bool) (x : ℤ) → t ≡ false → (if t then pos 0 else neg_ℤ x) ≡ pos 0 -ℤ x
          if_else true x e = cc
          if_else false x e = opposite_is x

          if_then : (t : Bool) (x : ℤ) → t ≡ true → (if t then pos 0 else neg_ℤ x) ≡ pos 0
          if_then true x e = refl
          if_then false x e = cc

  -- ---- the numbers of the terms
  abbrev pub put_after : ℕ → Option ℕ → ℕ → (Option ℕ → ℤ) → ℤ
  put_after l m k q = if (ways k).taken.to == l then there_after v (ways k) q m else pos 0

  abbrev pub put_before : ℕ → Option ℕ → ℕ → (Option ℕ → ℤ) → ℤ
  put_before l m k q = if (ways k).taken.from == l then there_before v (ways k) q m else pos 0

  -- what a way adds to the column of a number: its own identity, and the next one
  abbrev pub put_in : ℕ → Option ℕ → ℕ → ℕ → ℤ
  put_in j m l k = (put_after l m k (p k j) -ℤ put_before l m k (p k j)) -ℤ put_before l m k (p k (suc j))

  pub positive_sum : (l j : ℕ) (m : Option ℕ) → j < d → column_sum (Positive l j m) ≡ total many (put_in j m l)
  positive_sum l j m j_in = total-same many (λ k. total (suc d) (λ i. over (width v (ways k)) (λ c. entry ways (line (identity k i) c) (Positive l j m) *ℤ p k i c))) (put_in j m l) (λ k g. of_way k)
    where
      own : (k : ℕ) (q : Option ℕ → ℤ) → over (width v (ways k)) (λ c. (entered (ways k).taken l m c -ℤ left (ways k).taken l m c) *ℤ q c) ≡ put_after l m k q -ℤ put_before l m k q
      own k q =
          over-same (width v (ways k)) (λ c. (entered (ways k).taken l m c -ℤ left (ways k).taken l m c) *ℤ q c) (λ c. entered (ways k).taken l m c *ℤ q c -ℤ left (ways k).taken l m c *ℤ q c) (λ c h. less_times (entered (ways k).taken l m c) (left (ways k).taken l m c) (q c))
          ∙ over-less (width v (ways k)) (λ c. entered (ways k).taken l m c *ℤ q c) (λ c. left (ways k).taken l m c *ℤ q c)
          ∙ (λ i. over_put ((ways k).taken.to == l) (width v (ways k)) (after (ways k).taken m) q i -ℤ over_put ((ways k).taken.from == l) (width v (ways k)) (unit_at m) q i)

      next : (k : ℕ) (q : Option ℕ → ℤ) → over (width v (ways k)) (λ c. neg_ℤ (left (ways k).taken l m c) *ℤ q c) ≡ neg_ℤ (put_before l m k q)
      next k q = over_opposite (width v (ways k)) (left (ways k).taken l m) q ∙ ap neg_ℤ (over_put ((ways k).taken.from == l) (width v (ways k)) (unit_at m) q)

      of_way : (k : ℕ) → total (suc d) (λ i. over (width v (ways k)) (λ c. entry ways (line (identity k i) c) (Positive l j m) *ℤ p k i c)) ≡ put_in j m l k
      of_way k =
          let a = total-same (suc d) (λ i. over (width v (ways k)) (λ c. entry ways (line (identity k i) c) (Positive l j m) *ℤ p k i c)) (λ i. (if i == j then put_after l m k (p k i) -ℤ put_before l m k (p k i) else pos 0) +ℤ (if i == suc j then neg_ℤ (put_before l m k (p k i)) else pos 0)) (λ i g. over_two (i == j) (i == suc j) (width v (ways k)) (λ c. entered (ways k).taken l m c -ℤ left (ways k).taken l m c) (λ c. neg_ℤ (left (ways k).taken l m c)) (p k i) ∙ (λ t. (if i == j then own k (p k i) t else pos 0) +ℤ (if i == suc j then next k (p k i) t else pos 0))) in
          let b = total-add (suc d) (λ i. if i == j then put_after l m k (p k i) -ℤ put_before l m k (p k i) else pos 0) (λ i. if i == suc j then neg_ℤ (put_before l m k (p k i)) else pos 0) in
          let x = picked_turned (suc d) j (λ i. put_after l m k (p k i) -ℤ put_before l m k (p k i)) (omega (arith, j_in)) in
          let y = picked_turned (suc d) (suc j) (λ i. neg_ℤ (put_before l m k (p k i))) (omega (arith, j_in)) in
          omega (arith, ints, a, b, x, y)

  pub negative_sum : (l j : ℕ) (m : Option ℕ) → column_sum (Negative l j m) ≡ neg_ℤ (column_sum (Positive l j m))
  negative_sum l j m =
      let a = total-same many (λ k. total (suc d) (λ i. over (width v (ways k)) (λ c. entry ways (line (identity k i) c) (Negative l j m) *ℤ p k i c))) (λ k. pos 0 -ℤ total (suc d) (λ i. share k i)) (λ k g. of_way k) in
      let b = total-less many (λ k. pos 0) (λ k. total (suc d) (λ i. share k i)) in
      let z = total-zero many (λ k. pos 0) (λ k g. refl) in
      omega (arith, ints, a, b, z)
    where
      share : ℕ → ℕ → ℤ
      share k i = over (width v (ways k)) (λ c. entry ways (line (identity k i) c) (Positive l j m) *ℤ p k i c)

      of_way : (k : ℕ) → total (suc d) (λ i. over (width v (ways k)) (λ c. entry ways (line (identity k i) c) (Negative l j m) *ℤ p k i c)) ≡ pos 0 -ℤ total (suc d) (λ i. share k i)
      of_way k =
          let a = total-same (suc d) (λ i. over (width v (ways k)) (λ c. entry ways (line (identity k i) c) (Negative l j m) *ℤ p k i c)) (λ i. pos 0 -ℤ share k i) (λ i g. over_opposite (width v (ways k)) (λ c. entry ways (line (identity k i) c) (Positive l j m)) (p k i) ∙ opposite_is (share k i)) in
          let b = total-less (suc d) (λ i. pos 0) (λ i. share k i) in
          let z = total-zero (suc d) (λ i. pos 0) (λ i g. refl) in
          omega (arith, ints, a, b, z)

  module _ (locations : ℕ) (from_in : (k : ℕ) → k < many → (ways k).taken.from < locations) (to_in : (k : ℕ) → k < many → (ways k).taken.to < locations) (terms : (l j : ℕ) (m : Option ℕ) → l < locations → touches ways many l ≡ true → j < d → Inside v m → (pos 0 ≤ℤ column_sum (Positive l j m)) × (pos 0 ≤ℤ column_sum (Negative l j m))) where
    term_zero : (l j : ℕ) (m : Option ℕ) → l < locations → j < d → Inside v m → total many (put_in j m l) ≡ pos 0
    term_zero l j m h j_in g = by_touch (touches ways many l) refl
      where
        by_touch : (b : Bool) → touches ways many l ≡ b → total many (put_in j m l) ≡ pos 0
        by_touch true e =
            let t = terms l j m h e j_in g in
            let a = t.0 in
            let b = t.1 in
            let n = negative_sum l j m in
            let s = positive_sum l j m j_in in
            omega (arith, ints, a, b, n, s)
        by_touch false e = total-zero many (put_in j m l) (λ k k_in.
            let u = untouched ways many k l e k_in in
            let x = if_false ((ways k).taken.to == l) (there_after v (ways k) (p k j) m) (pos 0) (or_parts ((ways k).taken.from == l) ((ways k).taken.to == l) u).1 in
            let y = if_false ((ways k).taken.from == l) (there_before v (ways k) (p k j) m) (pos 0) (or_parts ((ways k).taken.from == l) ((ways k).taken.to == l) u).0 in
            let z = if_false ((ways k).taken.from == l) (there_before v (ways k) (p k (suc j)) m) (pos 0) (or_parts ((ways k).taken.from == l) ((ways k).taken.to == l) u).0 in
            omega (arith, ints, x, y, z))

    -- what a way adds for one of the terms
    abbrev pub term_part : (ℕ → ℕ → Option ℕ → ℤ) → ℕ → ℕ → ℤ
    term_part f j k = change_at v (f j) (ways k) (p k j) -ℤ before_at v (f j) (ways k) (p k (suc j))

    of_term : (f : ℕ → ℕ → Option ℕ → ℤ) (j : ℕ) → j < d → total many (λ k. term_part f j k) ≡ pos 0
    of_term f j j_in =
        let zero_sum = total-zero locations (λ l. over v (λ m. f j l m *ℤ total many (put_in j m l))) (λ l l_in. over-zero v (λ m. f j l m *ℤ total many (put_in j m l)) (λ m g. times_zero (f j l m) (total many (put_in j m l)) (term_zero l j m l_in j_in g))) in
        let spread = total-same locations (λ l. over v (λ m. f j l m *ℤ total many (put_in j m l))) (λ l. total many (λ k. there l k)) (λ l l_in. at_location l) in
        let turn = total-swap locations many there in
        let each = total-same many (λ k. total locations (λ l. there l k)) (λ k. term_part f j k) (λ k k_in. at_place k k_in) in
        omega (arith, ints, zero_sum, spread, turn, each)
      where
        grown : (Option ℕ → ℤ) → ℕ → ℕ → ℤ
        grown q l k = if (ways k).taken.to == l then over v (λ m. f j l m *ℤ there_after v (ways k) q m) else pos 0

        shrunk : (Option ℕ → ℤ) → ℕ → ℕ → ℤ
        shrunk q l k = if (ways k).taken.from == l then over v (λ m. f j l m *ℤ there_before v (ways k) q m) else pos 0

        there : ℕ → ℕ → ℤ
        there l k = (grown (p k j) l k -ℤ shrunk (p k j) l k) -ℤ shrunk (p k (suc j)) l k

        times_three : (z a b c : ℤ) → z *ℤ ((a -ℤ b) -ℤ c) ≡ (z *ℤ a -ℤ z *ℤ b) -ℤ z *ℤ c
        times_three z a b c = times_less z (a -ℤ b) c ∙ ap (λ y. y -ℤ z *ℤ c) (times_less z a b)

        one : (l k : ℕ) → over v (λ m. f j l m *ℤ put_in j m l k) ≡ there l k
        one l k =
            let s = over-same v (λ m. f j l m *ℤ put_in j m l k) (λ m. (f j l m *ℤ put_after l m k (p k j) -ℤ f j l m *ℤ put_before l m k (p k j)) -ℤ f j l m *ℤ put_before l m k (p k (suc j))) (λ m g. times_three (f j l m) (put_after l m k (p k j)) (put_before l m k (p k j)) (put_before l m k (p k (suc j)))) in
            let a = over-less v (λ m. f j l m *ℤ put_after l m k (p k j) -ℤ f j l m *ℤ put_before l m k (p k j)) (λ m. f j l m *ℤ put_before l m k (p k (suc j))) in
            let b = over-less v (λ m. f j l m *ℤ put_after l m k (p k j)) (λ m. f j l m *ℤ put_before l m k (p k j)) in
            let x = over_kept ((ways k).taken.to == l) v (f j l) (there_after v (ways k) (p k j)) in
            let y = over_kept ((ways k).taken.from == l) v (f j l) (there_before v (ways k) (p k j)) in
            let z = over_kept ((ways k).taken.from == l) v (f j l) (there_before v (ways k) (p k (suc j))) in
            s ∙ a ∙ (λ i. (b ∙ (λ t. x t -ℤ y t)) i -ℤ z i)

        at_location : (l : ℕ) → over v (λ m. f j l m *ℤ total many (put_in j m l)) ≡ total many (λ k. there l k)
        at_location l =
            over-same v (λ m. f j l m *ℤ total many (put_in j m l)) (λ m. total many (λ k. f j l m *ℤ put_in j m l k)) (λ m g. sym (total-times many (f j l m) (put_in j m l)))
            ∙ over-total v many (λ m k. f j l m *ℤ put_in j m l k)
            ∙ total-same many (λ k. over v (λ m. f j l m *ℤ put_in j m l k)) (λ k. there l k) (λ k g. one l k)

        at_place : (k : ℕ) → k < many → total locations (λ l. there l k) ≡ term_part f j k
        at_place k k_in =
            total-less locations (λ l. grown (p k j) l k -ℤ shrunk (p k j) l k) (λ l. shrunk (p k (suc j)) l k)
            ∙ (λ i. (total-less locations (λ l. grown (p k j) l k) (λ l. shrunk (p k j) l k)
            ∙ (λ t. picked locations (ways k).taken.to (λ l. over v (λ m. f j l m *ℤ there_after v (ways k) (p k j) m)) (to_in k k_in) t
            -ℤ picked locations (ways k).taken.from (λ l. over v (λ m. f j l m *ℤ there_before v (ways k) (p k j) m)) (from_in k k_in) t)) i
            -ℤ picked locations (ways k).taken.from (λ l. over v (λ m. f j l m *ℤ there_before v (ways k) (p k (suc j)) m)) (from_in k k_in) i)

    pub balanced : (f : ℕ → ℕ → Option ℕ → ℤ) → total many (λ k. total d (λ j. term_part f j k)) ≡ pos 0
    balanced f = total-swap many d (λ k j. term_part f j k) ∙ total-zero d (λ j. total many (λ k. term_part f j k)) (λ j j_in. of_term f j j_in)
