-- It can be told whether some numbers, put after a point, meet rows that are differences.
use Rattle.std.proofs.Common.{◌≡◌, ◌⊎◌, inl, inr, ℕ, zero, suc, ◌+◌, List, [], ◌∷◌, ◌++◌, length, map, refl, sym, ap, ◌∙◌, subst, arith, ℤ, pos, negsuc, neg_ℤ, ◌+ℤ◌, ◌-ℤ◌, ◌*ℤ◌, ◌≤ℤ◌, true, slice_index_or, length-append, append_assoc}
use Rattle.std.specs.Prelude.{◌&&◌}
use Rattle.std.specs.Int.RustNames.{int_le}
use Rattle.std.specs.List.{AllByRecursion}
use Rattle.std.proofs.lemmas.Int.{ints}
use Rattle.std.proofs.lemmas.List.{append-nil}
use Rattle.tv_linear.specs.Linear.{Linear, linear, columns, dot, value}
use Rattle.tv_region.specs.Differences.{coefficient, IsDifference}
use Rattle.tv_region.specs.Draws.{sum_row}
use Rattle.tv_region.specs.Made.{last_of, shortened, cancelled, IsOpposite}
use Rattle.tv_region.specs.Met.{meets, all_met, Has}
use Rattle.tv_region.proofs.Between.{between}
use Rattle.tv_region.proofs.DifferenceLemmas.{shortened_difference, sum_difference, tight_difference}
use Rattle.tv_region.proofs.DrawLemmas.{all_met-from, recursion_has, has_recursion, no_draws}
use Rattle.tv_region.proofs.MetLemmas.{is_met, met_is, all_met-has, has_left, has_right, has_append}
use Rattle.tv_region.proofs.SumLemmas.{value-last, columns-shortened, met_sum, sum_met, columns-sum}
use Rattle.tv_rounds.proofs.SetLemmas.{in_or_out}

-- each of the rows is a difference
abbrev pub AreDifferences : List Linear → Type 0
AreDifferences rows = (r : Linear) → Has rows r → IsDifference r

-- each of the rows has n columns
abbrev AreOver : ℕ → List Linear → Type 0
AreOver n rows = (r : Linear) → Has rows r → columns r ≡ n

-- ---- lists
has_map : (f : Linear → Linear) (rows : List Linear) (r : Linear) → Has rows r → Has (map f rows) (f r)
has_map f [] r h = absurd h
has_map f (s ∷ rows) r (inl e) = inl (ap f e)
has_map f (s ∷ rows) r (inr h) = inr (has_map f rows r h)

map_has : (f : Linear → Linear) (rows : List Linear) (r : Linear) → Has (map f rows) r → (s : Linear) × Has rows s × (f s ≡ r)
map_has f [] r h = absurd h
map_has f (s ∷ rows) r (inl e) = (s, inl refl, e)
map_has f (s ∷ rows) r (inr h) = let w = map_has f rows r h in (w.0, inr w.1, w.2)

-- the rows made of one of the first and one of the second
abbrev pairs : (Linear → Linear → Linear) → List Linear → List Linear → List Linear
pairs f [] lows = []
pairs f (u ∷ ups) lows = map (f u) lows ++ pairs f ups lows

has_pair : (f : Linear → Linear → Linear) (ups lows : List Linear) (u l : Linear) → Has ups u → Has lows l → Has (pairs f ups lows) (f u l)
has_pair f [] lows u l h k = absurd h
has_pair f (v ∷ ups) lows u l (inl e) k = has_left (map (f v) lows) (pairs f ups lows) (f u l) (subst (λ x. Has (map (f v) lows) (f x l)) e (has_map (f v) lows l k))
has_pair f (v ∷ ups) lows u l (inr h) k = has_right (map (f v) lows) (pairs f ups lows) (f u l) (has_pair f ups lows u l h k)

pair_has : (f : Linear → Linear → Linear) (ups lows : List Linear) (r : Linear) → Has (pairs f ups lows) r → (u : Linear) × (l : Linear) × Has ups u × Has lows l × (f u l ≡ r)
pair_has f [] lows r h = absurd h
pair_has f (v ∷ ups) lows r h = elim (has_append (map (f v) lows) (pairs f ups lows) r h) [
  | inl k ↦ (let w = map_has (f v) lows r k in (v, w.0, inl refl, w.1, w.2))
  | inr k ↦ (let w = pair_has f ups lows r k in (w.0, w.1, inr w.2, w.3, w.4))
]

-- ---- the last column
-- the rows by their number in the column
record Parted (n : ℕ) (rows : List Linear) : Type 0 where
  ups : List Linear
  lows : List Linear
  rest : List Linear
  up : (r : Linear) → Has ups r → Has rows r × (last_of n r ≡ pos 1)
  low : (r : Linear) → Has lows r → Has rows r × (last_of n r ≡ negsuc 0)
  none : (r : Linear) → Has rest r → Has rows r × (last_of n r ≡ pos 0)
  whole : (r : Linear) → Has rows r → Has ups r ⊎ (Has lows r ⊎ Has rest r)

first_or : (rows kept : List Linear) (n : ℕ) (x : Linear) (z : ℤ) → last_of n x ≡ z → ((r : Linear) → Has kept r → Has rows r × (last_of n r ≡ z)) → (r : Linear) → Has (x ∷ kept) r → Has (x ∷ rows) r × (last_of n r ≡ z)
first_or rows kept n x z e h r (inl s) = (inl s, subst (λ y. last_of n y ≡ z) s e)
first_or rows kept n x z e h r (inr m) = let w = h r m in (inr w.0, w.1)

later_only : (rows kept : List Linear) (n : ℕ) (x : Linear) (z : ℤ) → ((r : Linear) → Has kept r → Has rows r × (last_of n r ≡ z)) → (r : Linear) → Has kept r → Has (x ∷ rows) r × (last_of n r ≡ z)
later_only rows kept n x z h r m = let w = h r m in (inr w.0, w.1)

parted : (n : ℕ) (rows : List Linear) → AreDifferences rows → Parted n rows
parted n [] h = record {
  ups = [];
  lows = [];
  rest = [];
  up = λ r m. absurd m;
  low = λ r m. absurd m;
  none = λ r m. absurd m;
  whole = λ r m. absurd m;
}
parted n (x ∷ rows) h =
    let w = parted n rows (λ r m. h r (inr m)) in
    elim ((h x (inl refl)).each n) [
      | inl e ↦ record {
        ups = w.ups;
        lows = w.lows;
        rest = x ∷ w.rest;
        up = later_only rows w.ups n x (pos 1) w.up;
        low = later_only rows w.lows n x (negsuc 0) w.low;
        none = first_or rows w.rest n x (pos 0) e w.none;
        whole = λ r m. elim m [
          | inl s ↦ inr (inr (inl s))
          | inr k ↦ elim (w.whole r k) [ inl a ↦ inl a | inr b ↦ elim b [ inl c ↦ inr (inl c) | inr c ↦ inr (inr (inr c)) ] ]
        ];
      }
      | inr o ↦ elim o [
        | inl e ↦ record {
          ups = x ∷ w.ups;
          lows = w.lows;
          rest = w.rest;
          up = first_or rows w.ups n x (pos 1) e w.up;
          low = later_only rows w.lows n x (negsuc 0) w.low;
          none = later_only rows w.rest n x (pos 0) w.none;
          whole = λ r m. elim m [
            | inl s ↦ inl (inl s)
            | inr k ↦ elim (w.whole r k) [ inl a ↦ inl (inr a) | inr b ↦ inr b ]
          ];
        }
        | inr e ↦ record {
          ups = w.ups;
          lows = x ∷ w.lows;
          rest = w.rest;
          up = later_only rows w.ups n x (pos 1) w.up;
          low = first_or rows w.lows n x (negsuc 0) e w.low;
          none = later_only rows w.rest n x (pos 0) w.none;
          whole = λ r m. elim m [
            | inl s ↦ inr (inl (inl s))
            | inr k ↦ elim (w.whole r k) [ inl a ↦ inl a | inr b ↦ elim b [ inl c ↦ inr (inl (inr c)) | inr c ↦ inr (inr c) ] ]
          ];
        }
      ]
    ]

-- The rows over n columns are met exactly where the others, over k more, are met with some numbers there; they are differences too.
record IsFree (n k : ℕ) (rows out : List Linear) : Type 0 where
  met : (xs ds : List ℤ) → length xs ≡ n → length ds ≡ k → all_met (xs ++ ds) rows ≡ true → all_met xs out ≡ true
  lifted : (xs : List ℤ) → length xs ≡ n → all_met xs out ≡ true → (ds : List ℤ) × (length ds ≡ k) × (all_met (xs ++ ds) rows ≡ true)
  differences : AreDifferences out
  over : AreOver n out

module _ (n : ℕ) (rows : List Linear) (differ : AreDifferences rows) (over : AreOver (n + 1) rows) where
  parts : Parted n rows
  parts = parted n rows differ

  abbrev sums : List Linear
  sums = pairs (sum_row n) parts.ups parts.lows

  abbrev left : List Linear
  left = map (shortened n) parts.rest ++ sums

  opposite : (u l : Linear) → Has parts.ups u → Has parts.lows l → IsOpposite n u l
  opposite u l h k = record {
    above = (let e = (parts.up u h).1 in omega (arith, ints, e));
    below = (let e = (parts.low l k).1 in omega (arith, ints, e));
  }

  module _ (xs : List ℤ) (size : length xs ≡ n) where
    abbrev V : Linear → ℤ
    V r = value (shortened n r) xs

    at : (d : ℤ) (r : Linear) → Has rows r → value r (xs ++ d ∷ []) ≡ last_of n r *ℤ d +ℤ V r
    at d r h = value-last n r xs d (over r h) size

    met_at : (d : ℤ) (r : Linear) → Has rows r → meets (xs ++ d ∷ []) r ≡ true → (last_of n r *ℤ d +ℤ V r) ≤ℤ pos 0
    met_at d r h m = subst (λ z. z ≤ℤ pos 0) (at d r h) (is_met (xs ++ d ∷ []) r m)

    at_met : (d : ℤ) (r : Linear) → Has rows r → (last_of n r *ℤ d +ℤ V r) ≤ℤ pos 0 → meets (xs ++ d ∷ []) r ≡ true
    at_met d r h m = met_is (xs ++ d ∷ []) r (subst (λ z. z ≤ℤ pos 0) (sym (at d r h)) m)

    sum_below : (u l : Linear) → Has parts.ups u → Has parts.lows l → meets xs (sum_row n u l) ≡ true → (V u +ℤ pos 1 *ℤ V l) ≤ℤ pos 0
    sum_below u l h k m =
        let a = parts.up u h in
        let b = parts.low l k in
        let s = sum_met n u l (opposite u l h k) (over u a.0) (over l b.0) xs size m in
        let y = ap (λ c. neg_ℤ c *ℤ V u) b.1 in
        let z = ap (λ c. c *ℤ V l) a.1 in
        omega (arith, ints, s, y, z)

    below_sum : (u l : Linear) → Has parts.ups u → Has parts.lows l → (V u +ℤ V l) ≤ℤ pos 0 → meets xs (sum_row n u l) ≡ true
    below_sum u l h k s =
        let a = parts.up u h in
        let b = parts.low l k in
        let y = ap (λ c. neg_ℤ c *ℤ V u) b.1 in
        let z = ap (λ c. c *ℤ V l) a.1 in
        met_sum n u l (opposite u l h k) (over u a.0) (over l b.0) xs size (omega (arith, ints, s, y, z))

    met_once : (d : ℤ) → all_met (xs ++ d ∷ []) rows ≡ true → all_met xs left ≡ true
    met_once d h = all_met-from xs left (λ r m. elim (has_append (map (shortened n) parts.rest) sums r m) [
      | inl k ↦ (
          let w = map_has (shortened n) parts.rest r k in
          let s = parts.none w.0 w.1 in
          let a = met_at d w.0 s.0 (all_met-has (xs ++ d ∷ []) rows w.0 h s.0) in
          let z = ap (λ c. c *ℤ d) s.1 in
          subst (λ x. meets xs x ≡ true) w.2 (met_is xs (shortened n w.0) (omega (arith, ints, a, z)))
          )
      | inr k ↦ (
          let w = pair_has (sum_row n) parts.ups parts.lows r k in
          let u = parts.up w.0 w.2 in
          let l = parts.low w.1 w.3 in
          let a = met_at d w.0 u.0 (all_met-has (xs ++ d ∷ []) rows w.0 h u.0) in
          let b = met_at d w.1 l.0 (all_met-has (xs ++ d ∷ []) rows w.1 h l.0) in
          let y = ap (λ c. c *ℤ d) u.1 in
          let z = ap (λ c. c *ℤ d) l.1 in
          subst (λ x. meets xs x ≡ true) w.4 (below_sum w.0 w.1 w.2 w.3 (omega (arith, ints, a, b, y, z)))
          )
    ])

    module _ (h : all_met xs left ≡ true) where
      pair_below : (u l : Linear) → Has parts.ups u → Has parts.lows l → (V u +ℤ pos 1 *ℤ V l) ≤ℤ pos 0
      pair_below u l a b = sum_below u l a b (all_met-has xs left (sum_row n u l) h (has_right (map (shortened n) parts.rest) sums (sum_row n u l) (has_pair (sum_row n) parts.ups parts.lows u l a b)))

      rest_below : (r : Linear) → Has parts.rest r → V r ≤ℤ pos 0
      rest_below r a = is_met xs (shortened n r) (all_met-has xs left (shortened n r) h (has_left (map (shortened n) parts.rest) sums (shortened n r) (has_map (shortened n) parts.rest r a)))

      some_draw : (d : ℤ) × (all_met (xs ++ d ∷ []) rows ≡ true)
      some_draw =
          let found = between Linear (λ r. pos 1) (λ r. value (shortened n r) xs) parts.ups parts.lows
          (recursion_has (λ u. pos 1 ≤ℤ pos 1) parts.ups (λ u k. omega (arith, ints)))
          (recursion_has (λ l. AllByRecursion (λ u. (value (shortened n u) xs +ℤ pos 1 *ℤ value (shortened n l) xs) ≤ℤ pos 0) parts.ups) parts.lows
          (λ l j. recursion_has (λ u. (value (shortened n u) xs +ℤ pos 1 *ℤ value (shortened n l) xs) ≤ℤ pos 0) parts.ups (λ u k. pair_below u l k j))) in (
            found.0,
            all_met-from (xs ++ found.0 ∷ []) rows (λ r m. elim (parts.whole r m) [
              | inl k ↦ (
                  let b = has_recursion (λ u. (pos 1 *ℤ found.0 +ℤ value (shortened n u) xs) ≤ℤ pos 0) parts.ups r found.1 k in
                  let z = ap (λ c. c *ℤ found.0) (parts.up r k).1 in
                  at_met found.0 r m (omega (arith, ints, b, z))
                  )
              | inr o ↦ elim o [
                | inl k ↦ (
                    let b = has_recursion (λ l. (value (shortened n l) xs -ℤ found.0) ≤ℤ pos 0) parts.lows r found.2 k in
                    let z = ap (λ c. c *ℤ found.0) (parts.low r k).1 in
                    at_met found.0 r m (omega (arith, ints, b, z))
                    )
                | inr k ↦ (
                    let b = rest_below r k in
                    let z = ap (λ c. c *ℤ found.0) (parts.none r k).1 in
                    at_met found.0 r m (omega (arith, ints, b, z))
                    )
              ]
            ]),
          )

  left_differences : AreDifferences left
  left_differences r m = elim (has_append (map (shortened n) parts.rest) sums r m) [
    | inl k ↦ (let w = map_has (shortened n) parts.rest r k in subst IsDifference w.2 (shortened_difference n w.0 (differ w.0 (parts.none w.0 w.1).0)))
    | inr k ↦ (
        let w = pair_has (sum_row n) parts.ups parts.lows r k in
        let s = sum_difference n w.0 w.1 (opposite w.0 w.1 w.2 w.3) (differ w.0 (parts.up w.0 w.2).0) (differ w.1 (parts.low w.1 w.3).0) in
        subst IsDifference w.4 (tight_difference (shortened n (cancelled n w.0 w.1)) (shortened_difference n (cancelled n w.0 w.1) s))
        )
  ]

  left_over : AreOver n left
  left_over r m = elim (has_append (map (shortened n) parts.rest) sums r m) [
    | inl k ↦ (let w = map_has (shortened n) parts.rest r k in let e = over w.0 (parts.none w.0 w.1).0 in ap (λ (x : Linear). columns x) (sym w.2) ∙ columns-shortened n w.0 (omega (arith, e)))
    | inr k ↦ (
        let w = pair_has (sum_row n) parts.ups parts.lows r k in
        ap (λ (x : Linear). columns x) (sym w.4) ∙ columns-sum n w.0 w.1 (opposite w.0 w.1 w.2 w.3) (over w.0 (parts.up w.0 w.2).0) (over w.1 (parts.low w.1 w.3).0)
        )
  ]

  free_one : IsFree n 1 rows left
  free_one = record {
    met = λ xs ds e f h. one_draw xs ds e f h;
    lifted = λ xs e h. (let w = some_draw xs e h in (w.0 ∷ [], refl, w.1));
    differences = left_differences;
    over = left_over;
  }
    where
      one_draw : (xs ds : List ℤ) → length xs ≡ n → length ds ≡ 1 → all_met (xs ++ ds) rows ≡ true → all_met xs left ≡ true
      one_draw xs [] e f h = absurd (omega (arith, f))
      one_draw xs (d ∷ []) e f h = met_once xs e d h
      one_draw xs (d ∷ c ∷ ds) e f h = absurd (omega (arith, f))

-- ---- several columns
free_none : (n : ℕ) (rows : List Linear) → AreDifferences rows → AreOver (n + 0) rows → IsFree n 0 rows rows
free_none n rows differ over = record {
  met = λ xs ds e f h. no_draws rows xs ds f h;
  lifted = λ xs e h. ([], refl, subst (λ ys. all_met ys rows ≡ true) (sym (append-nil xs)) h);
  differences = differ;
  over = λ r m. (let e = over r m in omega (arith, e));
}

free_more : (n k : ℕ) (rows middle out : List Linear) → IsFree (n + 1) k rows middle → IsFree n 1 middle out → IsFree n (suc k) rows out
free_more n k rows middle out h g = record {
  met = λ xs ds e f m. by_first xs ds e f m;
  lifted = λ xs e m.
      let w = g.lifted xs e m in
      let d = w.1 in
      let v = h.lifted (xs ++ w.0) (omega (arith, length-append xs w.0, d, e)) w.2 in
      let c = v.1 in
      (w.0 ++ v.0, omega (arith, length-append w.0 v.0, d, c), subst (λ ys. all_met ys rows ≡ true) (append_assoc xs w.0 v.0) v.2);
  differences = g.differences;
  over = g.over;
}
  where
    by_first : (xs ds : List ℤ) → length xs ≡ n → length ds ≡ suc k → all_met (xs ++ ds) rows ≡ true → all_met xs out ≡ true
    by_first xs [] e f m = absurd (omega (arith, f))
    by_first xs (d ∷ ds) e f m =
        g.met xs (d ∷ []) e refl
        (h.met (xs ++ d ∷ []) ds (omega (arith, length-append xs (d ∷ []), e)) (omega (arith, f)) (subst (λ ys. all_met ys rows ≡ true) (sym (append_assoc xs (d ∷ []) ds)) m))

free_of : (k n : ℕ) (rows : List Linear) → AreDifferences rows → AreOver (n + k) rows → (out : List Linear) × IsFree n k rows out
free_of zero n rows differ over = (rows, free_none n rows differ over)
free_of (suc k) n rows differ over =
    let first = free_of k (n + 1) rows differ (λ r m. (let e = over r m in omega (arith, e))) in
    (left n first.0 first.1.differences first.1.over, free_more n k rows first.0 (left n first.0 first.1.differences first.1.over) first.1 (free_one n first.0 first.1.differences first.1.over))

-- ---- rows of any width
abbrev fitted_numbers : ℕ → List ℤ → List ℤ
fitted_numbers zero cs = []
fitted_numbers (suc n) [] = pos 0 ∷ fitted_numbers n []
fitted_numbers (suc n) (c ∷ cs) = c ∷ fitted_numbers n cs

-- the row with n columns
abbrev fitted : ℕ → Linear → Linear
fitted n r = linear (fitted_numbers n r.coefficients) r.constant

length-fitted : (n : ℕ) (cs : List ℤ) → length (fitted_numbers n cs) ≡ n
length-fitted zero cs = refl
length-fitted (suc n) [] = ap suc (length-fitted n [])
length-fitted (suc n) (c ∷ cs) = ap suc (length-fitted n cs)

number-fitted : (n : ℕ) (cs : List ℤ) (j : ℕ) → (slice_index_or (fitted_numbers n cs) j (pos 0) ≡ pos 0) ⊎ (slice_index_or (fitted_numbers n cs) j (pos 0) ≡ slice_index_or cs j (pos 0))
number-fitted zero cs j = inl refl
number-fitted (suc n) [] zero = inl refl
number-fitted (suc n) [] (suc j) = number-fitted n [] j
number-fitted (suc n) (c ∷ cs) zero = inr refl
number-fitted (suc n) (c ∷ cs) (suc j) = number-fitted n cs j

dot-nothing : (n : ℕ) (xs : List ℤ) → dot (fitted_numbers n []) xs ≡ pos 0
dot-nothing zero xs = refl
dot-nothing (suc n) [] = refl
dot-nothing (suc n) (x ∷ xs) = let h = dot-nothing n xs in omega (arith, ints, h)

dot-fitted : (cs xs : List ℤ) → dot (fitted_numbers (length xs) cs) xs ≡ dot cs xs
dot-fitted [] xs = dot-nothing (length xs) xs
dot-fitted (c ∷ cs) [] = refl
dot-fitted (c ∷ cs) (x ∷ xs) = ap (λ z. (c *ℤ x) +ℤ z) (dot-fitted cs xs)

fitted_difference : (n : ℕ) (r : Linear) → IsDifference r → IsDifference (fitted n r)
fitted_difference n r h = record {
  each = λ j. elim (number-fitted n r.coefficients j) [ inl e ↦ inl e | inr e ↦ subst (λ z. (z ≡ pos 0) ⊎ ((z ≡ pos 1) ⊎ (z ≡ negsuc 0))) (sym e) (h.each j) ];
  one_added = λ i j a b. h.one_added i j (was i (pos 1) (λ k. omega (arith, ints, k)) a) (was j (pos 1) (λ k. omega (arith, ints, k)) b);
  one_taken_off = λ i j a b. h.one_taken_off i j (was i (negsuc 0) (λ k. omega (arith, ints, k)) a) (was j (negsuc 0) (λ k. omega (arith, ints, k)) b);
}
  where
    was : (i : ℕ) (z : ℤ) → (z ≡ pos 0 → ⊥) → coefficient (fitted n r) i ≡ z → coefficient r i ≡ z
    was i z k e = elim (number-fitted n r.coefficients i) [ inl a ↦ absurd (k (sym e ∙ a)) | inr a ↦ sym a ∙ e ]

fitted_met : (n : ℕ) (xs : List ℤ) → length xs ≡ n → (rows : List Linear) → all_met xs (map (fitted n) rows) ≡ all_met xs rows
fitted_met n xs e [] = refl
fitted_met n xs e (r ∷ rows) = (λ i. same i && fitted_met n xs e rows i) where
  same : meets xs (fitted n r) ≡ meets xs r
  same = ap (λ z. int_le (z +ℤ r.constant) (pos 0)) (subst (λ k. dot (fitted_numbers k r.coefficients) xs ≡ dot r.coefficients xs) e (dot-fitted r.coefficients xs))

-- ---- whether some numbers serve
-- k numbers after the point meet the rows
pub record MeetsBehind (k : ℕ) (rows : List Linear) (xs : List ℤ) : Type 0 where
  pub draws : List ℤ
  pub drawn : length draws ≡ k
  pub met : all_met (xs ++ draws) rows ≡ true

pub draws_told : (k : ℕ) (rows : List Linear) → AreDifferences rows → (xs : List ℤ) → MeetsBehind k rows xs ⊎ (MeetsBehind k rows xs → ⊥)
draws_told k rows differ xs =
    let n = length xs + k in
    let free = free_of k (length xs) (map (fitted n) rows)
    (λ r m. (let w = map_has (fitted n) rows r m in subst IsDifference w.2 (fitted_difference n w.0 (differ w.0 w.1))))
    (λ r m. (let w = map_has (fitted n) rows r m in ap (λ (x : Linear). columns x) (sym w.2) ∙ length-fitted n w.0.coefficients)) in
    elim (in_or_out (all_met xs free.0)) [
      | inl yes_ ↦ (
          let w = free.1.lifted xs refl yes_ in
          let d = w.1 in
          inl record { draws = w.0; drawn = w.1; met = sym (fitted_met n (xs ++ w.0) (omega (arith, length-append xs w.0, d)) rows) ∙ w.2 }
          )
      | inr none_ ↦ inr (λ w. (
          let d = w.drawn in
          none_ (free.1.met xs w.draws refl w.drawn (fitted_met n (xs ++ w.draws) (omega (arith, length-append xs w.draws, d)) rows ∙ w.met))
          ))
    ]
