-- The last column of rows, eliminated.
use Rattle.std.proofs.Common.{◌≡◌, ◌⊎◌, inl, inr, ℕ, suc, ◌+◌, ◌-◌, ◌≤◌, List, [], ◌∷◌, ◌++◌, length, refl, sym, ap, ◌∙◌, subst, arith, ℤ, pos, negsuc, neg_ℤ, ◌+ℤ◌, ◌-ℤ◌, ◌*ℤ◌, ◌≤ℤ◌, Bool, true, length-append, append_assoc}
use Rattle.std.specs.Prelude.{◌<ℤ◌, ◌&&◌}
use Rattle.std.specs.List.{AllByRecursion}
use Rattle.std.proofs.lemmas.Int.{ints}
use Rattle.std.proofs.lemmas.List.{append-nil}
use Rattle.std.proofs.Math.IntN.{*ℤ_comm}
use Rattle.tv_linear.specs.Linear.{Linear, columns, value, IsNarrow}
use Rattle.tv_linear.proofs.Ring.{mul_assoc_z, distribute_z, neg_times_z, not_above}
use Rattle.tv_cases.specs.LinearCases.{LinearCase}
use Rattle.tv_region.specs.Met.{meets, all_met, Has}
use Rattle.tv_region.specs.Made.{Made, over_draws, of_tight, of_sum, of_shortened, IsWideStep, wide_sum, last_of, shortened, cancelled, IsOpposite}
use Rattle.tv_region.specs.Draws.{sum_row, Drawn, drawn_one, drawn_sum, drawn_short, IsWideSum, IsWideDrawn, IsParted, IsSummed, IsProjected}
use Rattle.tv_region.proofs.Between.{between}
use Rattle.tv_region.proofs.DifferenceLemmas.{above_is_one, drawn_difference}
use Rattle.tv_region.proofs.MetLemmas.{is_met, met_is, all_met-has}
use Rattle.tv_region.proofs.SumLemmas.{value-last, columns-shortened, last-cancelled, sum_met, met_sum, columns-sum}
use Rattle.std.proofs.lemmas.Bool.{and_parts, and_from}

-- ---- lists
pub all_met-from : (xs : List ℤ) (rows : List Linear) → ((r : Linear) → Has rows r → meets xs r ≡ true) → all_met xs rows ≡ true
all_met-from xs [] h = refl
all_met-from xs (r ∷ rows) h = and_from (meets xs r) (all_met xs rows) (h r (inl refl)) (all_met-from xs rows (λ s k. h s (inr k)))

pub recursion_has : {A : Type 0} (P : A → Type 0) (xs : List A) → ((x : A) → Has xs x → P x) → AllByRecursion P xs
recursion_has P [] h = tt
recursion_has P (x ∷ xs) h = (h x (inl refl), recursion_has P xs (λ y k. h y (inr k)))

pub has_recursion : {A : Type 0} (P : A → Type 0) (xs : List A) (x : A) → AllByRecursion P xs → Has xs x → P x
has_recursion P [] x h k = absurd k
has_recursion P (y ∷ xs) x h (inl e) = subst P e h.0
has_recursion P (y ∷ xs) x h (inr k) = has_recursion P xs x h.1 k

-- ---- sums
cancel_values : (a b d u l : ℤ) → neg_ℤ b *ℤ (a *ℤ d +ℤ u) +ℤ a *ℤ (b *ℤ d +ℤ l) ≡ neg_ℤ b *ℤ u +ℤ a *ℤ l
cancel_values a b d u l =
    let p = distribute_z (neg_ℤ b) (a *ℤ d) u in
    let q = distribute_z a (b *ℤ d) l in
    let r = neg_times_z b (a *ℤ d) in
    let s = mul_assoc_z a b d in
    let t = mul_assoc_z b a d in
    let c : (a *ℤ b) *ℤ d ≡ (b *ℤ a) *ℤ d = (λ i. *ℤ_comm a b i *ℤ d) in
    omega (arith, ints, p, q, r, s, t, c)

rule_met : (a b d u l : ℤ) → pos 0 <ℤ a → b <ℤ pos 0 → (a *ℤ d +ℤ u) ≤ℤ pos 0 → (b *ℤ d +ℤ l) ≤ℤ pos 0 → (neg_ℤ b *ℤ u +ℤ a *ℤ l) ≤ℤ pos 0
rule_met a b d u l h k x y =
    let s = not_above (neg_ℤ b) (a *ℤ d +ℤ u) (omega (arith, ints, k)) x in
    let t = not_above a (b *ℤ d +ℤ l) (omega (arith, ints, h)) y in
    let c = cancel_values a b d u l in
    omega (arith, ints, s, t, c)

turn : (b d : ℤ) → b *ℤ neg_ℤ d ≡ neg_ℤ b *ℤ d
turn b d = *ℤ_comm b (neg_ℤ d) ∙ neg_times_z d b ∙ ap neg_ℤ (*ℤ_comm d b) ∙ sym (neg_times_z b d)

module _ (n : ℕ) (rows uppers lowers rest out : List Linear) (parts : IsParted n rows uppers lowers rest) (summed : IsSummed n uppers lowers rest out) (wide : (r : Linear) → Has rows r → columns r ≡ n + 1) where
  opposite : (u l : Linear) → Has uppers u → Has lowers l → IsOpposite n u l
  opposite u l h k = record { above = (parts.up u h).1; below = (parts.low l k).1 }

  module _ (xs : List ℤ) (e : length xs ≡ n) where
    at : (d : ℤ) (r : Linear) → Has rows r → value r (xs ++ d ∷ []) ≡ last_of n r *ℤ d +ℤ value (shortened n r) xs
    at d r h = value-last n r xs d (wide r h) e

    met_at : (d : ℤ) (r : Linear) → Has rows r → meets (xs ++ d ∷ []) r ≡ true → (last_of n r *ℤ d +ℤ value (shortened n r) xs) ≤ℤ pos 0
    met_at d r h m = subst (λ z. z ≤ℤ pos 0) (at d r h) (is_met (xs ++ d ∷ []) r m)

    at_met : (d : ℤ) (r : Linear) → Has rows r → (last_of n r *ℤ d +ℤ value (shortened n r) xs) ≤ℤ pos 0 → meets (xs ++ d ∷ []) r ≡ true
    at_met d r h m = met_is (xs ++ d ∷ []) r (subst (λ z. z ≤ℤ pos 0) (sym (at d r h)) m)

    pub shadow : (d : ℤ) → all_met (xs ++ d ∷ []) rows ≡ true → all_met xs out ≡ true
    shadow d h = summed.all xs
        (all_met-from xs rest (λ r k.
        let w = parts.none r k in
        let s = w.0 in
        let m = met_at d s w.1 (all_met-has (xs ++ d ∷ []) rows s h w.1) in
        let z = ap (λ c. c *ℤ d) w.2 in
        subst (λ x. meets xs x ≡ true) w.3 (met_is xs (shortened n s) (omega (arith, ints, m, z)))))
        (λ u l k j.
        let a = (parts.up u k).0 in
        let b = (parts.low l j).0 in
        met_sum n u l (opposite u l k j) (wide u a) (wide l b) xs e
        (rule_met (last_of n u) (last_of n l) d (value (shortened n u) xs) (value (shortened n l) xs) (parts.up u k).1 (parts.low l j).1
        (met_at d u a (all_met-has (xs ++ d ∷ []) rows u h a)) (met_at d l b (all_met-has (xs ++ d ∷ []) rows l h b))))

    module _ (h : all_met xs out ≡ true) where
      rule : (u l : Linear) → Has uppers u → Has lowers l → (neg_ℤ (last_of n l) *ℤ value (shortened n u) xs +ℤ last_of n u *ℤ value (shortened n l) xs) ≤ℤ pos 0
      rule u l k j = sum_met n u l (opposite u l k j) (wide u (parts.up u k).0) (wide l (parts.low l j).0) xs e (summed.sums xs h u l k j)

      whole : (d : ℤ) → ((u : Linear) → Has uppers u → (last_of n u *ℤ d +ℤ value (shortened n u) xs) ≤ℤ pos 0) → ((l : Linear) → Has lowers l → (last_of n l *ℤ d +ℤ value (shortened n l) xs) ≤ℤ pos 0) → all_met (xs ++ d ∷ []) rows ≡ true
      whole d up low = all_met-from (xs ++ d ∷ []) rows (λ s k. elim (parts.whole s k) [
        | inl u ↦ at_met d s k (up s u)
        | inr w ↦ elim w [
          | inl l ↦ at_met d s k (low s l)
          | inr r ↦ (
              let m = is_met xs (shortened n s) (all_met-has xs rest (shortened n s) (summed.kept xs h) r.0) in
              let z = ap (λ c. c *ℤ d) r.1 in
              at_met d s k (omega (arith, ints, m, z)))
        ]
      ])

      by_lowers : ((l : Linear) → Has lowers l → last_of n l ≡ negsuc 0) → (d : ℤ) × (all_met (xs ++ d ∷ []) rows ≡ true)
      by_lowers units =
          let V = λ (r : Linear). value (shortened n r) xs in
          let found = between Linear (last_of n) V uppers lowers
          (recursion_has (λ u. pos 1 ≤ℤ last_of n u) uppers (λ u k. let a = (parts.up u k).1 in omega (arith, ints, a)))
          (recursion_has (λ l. AllByRecursion (λ u. (value (shortened n u) xs +ℤ last_of n u *ℤ value (shortened n l) xs) ≤ℤ pos 0) uppers) lowers
          (λ l j. recursion_has (λ u. (value (shortened n u) xs +ℤ last_of n u *ℤ value (shortened n l) xs) ≤ℤ pos 0) uppers
          (λ u k. let r = rule u l k j in let z = ap (λ c. neg_ℤ c *ℤ value (shortened n u) xs) (units l j) in omega (arith, ints, r, z)))) in (
            found.0,
            whole found.0
                (λ u k. has_recursion (λ x. (last_of n x *ℤ found.0 +ℤ value (shortened n x) xs) ≤ℤ pos 0) uppers u found.1 k)
                (λ l j. let b = has_recursion (λ x. (value (shortened n x) xs -ℤ found.0) ≤ℤ pos 0) lowers l found.2 j in let z = ap (λ c. c *ℤ found.0) (units l j) in omega (arith, ints, b, z)),
          )

      by_uppers : ((u : Linear) → Has uppers u → last_of n u ≡ pos 1) → (d : ℤ) × (all_met (xs ++ d ∷ []) rows ≡ true)
      by_uppers units =
          let found = between Linear (λ (l : Linear). neg_ℤ (last_of n l)) (λ (r : Linear). value (shortened n r) xs) lowers uppers
          (recursion_has (λ l. pos 1 ≤ℤ neg_ℤ (last_of n l)) lowers (λ l j. let b = (parts.low l j).1 in omega (arith, ints, b)))
          (recursion_has (λ u. AllByRecursion (λ l. (value (shortened n l) xs +ℤ neg_ℤ (last_of n l) *ℤ value (shortened n u) xs) ≤ℤ pos 0) lowers) uppers
          (λ u k. recursion_has (λ l. (value (shortened n l) xs +ℤ neg_ℤ (last_of n l) *ℤ value (shortened n u) xs) ≤ℤ pos 0) lowers
          (λ l j. let r = rule u l k j in let z = ap (λ c. c *ℤ value (shortened n l) xs) (units u k) in omega (arith, ints, r, z)))) in (
            neg_ℤ found.0,
            whole (neg_ℤ found.0)
                (λ u k. let b = has_recursion (λ x. (value (shortened n x) xs -ℤ found.0) ≤ℤ pos 0) uppers u found.2 k in let z = ap (λ c. c *ℤ neg_ℤ found.0) (units u k) in omega (arith, ints, b, z))
                (λ l j. let b = has_recursion (λ x. (neg_ℤ (last_of n x) *ℤ found.0 +ℤ value (shortened n x) xs) ≤ℤ pos 0) lowers l found.1 j in let z = turn (last_of n l) found.0 in omega (arith, ints, b, z)),
          )

  pub out_wide : (r : Linear) → Has out r → columns r ≡ n
  out_wide r h = elim (summed.from r h) [
    | inl k ↦ (let w = parts.none r k in ap (λ (x : Linear). columns x) (sym w.3) ∙ columns-shortened n w.0 (let e = wide w.0 w.1 in omega (arith, e)))
    | inr w ↦ ap (λ (x : Linear). columns x) (sym w.is) ∙ columns-sum n w.upper w.lower (opposite w.upper w.lower w.high w.low) (wide w.upper (parts.up w.upper w.high).0) (wide w.lower (parts.low w.lower w.low).0)
  ]

  pub out_drawn : (r : Linear) → Has out r → Drawn (n + 1) rows n r
  out_drawn r h = elim (summed.from r h) [
    | inl k ↦ (let w = parts.none r k in subst (Drawn (n + 1) rows n) w.3 (drawn_short n w.0 w.2 (drawn_one w.0 w.1)))
    | inr w ↦ (
        let u = parts.up w.upper w.high in
        let l = parts.low w.lower w.low in
        let o = opposite w.upper w.lower w.high w.low in
        subst (Drawn (n + 1) rows n) w.is (drawn_sum n w.upper w.lower o (last-cancelled n w.upper w.lower o (wide w.upper u.0) (wide w.lower l.0)) w.narrow w.tightened (drawn_one w.upper u.0) (drawn_one w.lower l.0))
        )
  ]

  pub eliminated_is : (exact : Bool) → (exact ≡ true → ((u : Linear) → Has uppers u → last_of n u ≡ pos 1) ⊎ ((l : Linear) → Has lowers l → last_of n l ≡ negsuc 0)) → (((u : Linear) → Has uppers u → last_of n u ≡ pos 1) → exact ≡ true) → IsProjected n 1 rows out exact
  eliminated_is exact units by_units = record {
    met = λ xs ds e f h. one_draw xs ds e f h;
    lifted = λ x xs e h. elim (units x) [
      | inl k ↦ (let w = by_uppers xs e h k in (w.0 ∷ [], refl, w.1))
      | inr k ↦ (let w = by_lowers xs e h k in (w.0 ∷ [], refl, w.1))
    ];
    differences = λ d. by_units (λ u k. above_is_one n u (parts.up u k).1 (d u (parts.up u k).0));
    from = out_drawn;
    wide = λ w. out_wide;
  }
    where
      one_draw : (xs ds : List ℤ) → length xs ≡ n → length ds ≡ 1 → all_met (xs ++ ds) rows ≡ true → all_met xs out ≡ true
      one_draw xs [] e f h = absurd (omega (arith, f))
      one_draw xs (d ∷ []) e f h = shadow xs e d h
      one_draw xs (d ∷ c ∷ ds) e f h = absurd (omega (arith, f))

-- ---- several columns
pub drawn_drawn : (w m : ℕ) (rows middle : List Linear) → ((r : Linear) → Has middle r → Drawn w rows m r) → (n : ℕ) (r : Linear) → Drawn m middle n r → Drawn w rows n r
drawn_drawn w m rows middle h _ r (drawn_one _ k) = h r k
drawn_drawn w m rows middle h _ _ (drawn_sum n p q o z f t k l) = drawn_sum n p q o z f t (drawn_drawn w m rows middle h (n + 1) p k) (drawn_drawn w m rows middle h (n + 1) q l)
drawn_drawn w m rows middle h _ _ (drawn_short n r z k) = drawn_short n r z (drawn_drawn w m rows middle h (n + 1) r k)

pub no_draws : (rows : List Linear) (xs ds : List ℤ) → length ds ≡ 0 → all_met (xs ++ ds) rows ≡ true → all_met xs rows ≡ true
no_draws rows xs [] f h = subst (λ ys. all_met ys rows ≡ true) (append-nil xs) h
no_draws rows xs (d ∷ ds) f h = absurd (omega (arith, f))

pub projected_none : (n : ℕ) (rows : List Linear) → IsProjected n 0 rows rows true
projected_none n rows = record {
  met = λ xs ds e f h. no_draws rows xs ds f h;
  lifted = λ x xs e h. ([], refl, subst (λ ys. all_met ys rows ≡ true) (sym (append-nil xs)) h);
  differences = λ d. refl;
  from = λ r h. (let e : n ≡ n + 0 = omega arith in subst (λ w. Drawn w rows n r) e (drawn_one r h));
  wide = λ w r h. (let k = w r h in omega (arith, k));
}

pub projected_more : (n k : ℕ) (rows middle out : List Linear) (first then_ : Bool) → IsProjected (n + 1) k rows middle first → IsProjected n 1 middle out then_ → IsProjected n (k + 1) rows out (first && then_)
projected_more n k rows middle out first then_ h g = record {
  met = λ xs ds e f m. by_first xs ds e f m;
  lifted = λ x xs e m.
      let b = and_parts first then_ x in
      let w = g.lifted b.1 xs e m in
      let d = w.1 in
      let v = h.lifted b.0 (xs ++ w.0) (omega (arith, length-append xs w.0, d, e)) w.2 in
      let c = v.1 in
      (w.0 ++ v.0, omega (arith, length-append w.0 v.0, d, c), subst (λ ys. all_met ys rows ≡ true) (append_assoc xs w.0 v.0) v.2);
  differences = λ d. and_from first then_ (h.differences d) (g.differences (λ r m. drawn_difference ((n + 1) + k) rows d (n + 1) r (h.from r m)));
  from = λ r m. (let e : (n + 1) + k ≡ n + (k + 1) = omega arith in subst (λ w. Drawn w rows n r) e (drawn_drawn ((n + 1) + k) (n + 1) rows middle h.from n r (g.from r m)));
  wide = λ w r m. g.wide (λ s j. h.wide (λ t i. (let a = w t i in omega (arith, a))) s j) r m;
}
  where
    by_first : (xs ds : List ℤ) → length xs ≡ n → length ds ≡ k + 1 → all_met (xs ++ ds) rows ≡ true → all_met xs out ≡ true
    by_first xs [] e f m = absurd (omega (arith, f))
    by_first xs (d ∷ ds) e f m =
        g.met xs (d ∷ []) e refl
        (h.met (xs ++ d ∷ []) ds (omega (arith, length-append xs (d ∷ []), e)) (omega (arith, f)) (subst (λ ys. all_met ys rows ≡ true) (sym (append_assoc xs (d ∷ []) ds)) m))

-- ---- rows that are made
same_draws : (n d k : ℕ) → n + d ≡ n + k → d ≡ k
same_draws n d k e = omega (arith, e)

one_more : (n k w : ℕ) → w ≡ n + k → w + 1 ≡ n + suc k
one_more n k w e = omega (arith, e)

module _ (n : ℕ) (cs : List LinearCase) (G : ℕ → Linear → Type 0) (c : LinearCase) (rows : List Linear) (f : (r : Linear) → Has rows r → Made n cs G (over_draws c c.draws) 1 r) where
  pub drawn_made : (k w : ℕ) → w ≡ n + k → (r : Linear) → Drawn (n + c.draws) rows w r → Made n cs G (over_draws c k) 1 r
  drawn_made k _ e r (drawn_one _ m) = subst (λ j. Made n cs G (over_draws c j) 1 r) (same_draws n c.draws k e) (f r m)
  drawn_made k _ e _ (drawn_sum w p q o z narrow tightened a b) =
      let first = drawn_made (suc k) (w + 1) (one_more n k w e) p a in
      let second = drawn_made (suc k) (w + 1) (one_more n k w e) q b in
      let sum = of_sum 1 k c p q (subst (λ v. IsOpposite v p q) e o) (subst (λ v. IsNarrow (cancelled v p q)) e narrow) first second in
      let short = of_shortened 1 k c (cancelled (n + k) p q) (subst (λ v. last_of v (cancelled v p q) ≡ pos 0) e z) sum in
      subst (λ v. Made n cs G (over_draws c k) 1 (sum_row v p q)) (sym e) (of_tight (over_draws c k) 1 (shortened (n + k) (cancelled (n + k) p q)) (subst (λ v. IsNarrow (sum_row v p q)) e tightened) short)
  drawn_made k _ e _ (drawn_short w r z a) =
      subst (λ v. Made n cs G (over_draws c k) 1 (shortened v r)) (sym e)
      (of_shortened 1 k c r (subst (λ v. last_of v r ≡ pos 0) e z) (drawn_made (suc k) (w + 1) (one_more n k w e) r a))

  behind : (w : ℕ) → n ≤ w → (k : ℕ) × (w ≡ n + k)
  behind w h = (w - n, omega (arith, h))

  pub drawn_wide : (column : ℕ) → IsWideDrawn n (n + c.draws) rows column → IsWideStep n cs G column
  drawn_wide column w =
      let k = behind w.last w.behind in
      let wide = subst (λ v. IsWideSum v w.first w.second column) k.1 w.wide in
      wide_sum k.0 c w.first w.second column wide.0
      (drawn_made (suc k.0) (w.last + 1) (one_more n k.0 w.last k.1) w.first w.from_first)
      (drawn_made (suc k.0) (w.last + 1) (one_more n k.0 w.last k.1) w.second w.from_second) wide.1
