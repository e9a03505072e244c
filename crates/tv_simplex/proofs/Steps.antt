use Rattle.std.proofs.Common.{◌≡◌, ℕ, zero, suc, inl, inr, ◌+◌, ◌<◌, arith, refl, sym, ap, ◌∙◌, subst, ℤ, pos, ◌+ℤ◌, ◌-ℤ◌, ◌*ℤ◌, ◌<ℤ◌}
use Rattle.std.proofs.lemmas.Int.{ints}
use Rattle.std.proofs.Math.IntN.{*ℤ_comm}
use Rattle.tv_linear.proofs.Ring.{mul_assoc_z}
use Rattle.tv_simplex.proofs.Ring.{mul_swap, times_zero, by_sign, less_times, times_less}
use Rattle.tv_simplex.proofs.Sums.{total-same, total-delta, delta-swap, delta-same, delta-other, delta-above}
use Rattle.tv_simplex.proofs.Leads.{leads-same, leads-times, leads-divide, leads-add, leads-less, leads-never}
use Rattle.tv_simplex.proofs.Unique.{same_tableau}
use Rattle.tv_simplex.proofs.Objective.{same_reduced}
use Rattle.tv_simplex.proofs.Exchanged.{after, after_at, reduced_after, exchanged}
use Rattle.tv_simplex.specs.Sums.{delta}
use Rattle.tv_simplex.specs.Tableaus.{Tableau, reduced, Exchange}
use Rattle.tv_simplex.specs.Chains.{LeadsAbove, order, cost, objective, Leaves, IsSystem}
use Rattle.tv_simplex.specs.Orders.{Feasible, ObjectiveBelow}
use Rattle.std.proofs.lemmas.Bool.{cases_eq}
use Rattle.tv_fraction.proofs.Products.{product_above}

-- ---- one exchange
module _ (a : ℕ → ℕ → ℤ) (m n : ℕ) (b b' : ℕ → ℕ) (x : Tableau a m n b) (r c : ℕ) (leaves : Leaves a m n b x c r) (e : Exchange m b b' r c) where
  unfoldable pub next_tableau : Tableau a m n b'
  next_tableau = exchanged a m n b b' x r c leaves.within e leaves.above

  -- the rows stay feasible
  pub next_feasible : Feasible a m n b x → Feasible a m n b' next_tableau
  unfolding next_tableau exchanged
  next_feasible f i i_in = elim (cases_eq i r) [
    | inl h ↦ leads-same m (λ q. x.scale *ℤ x.entry r (order m n q)) (λ q. after x.scale x.entry r c i (order m n q)) (leads-times m x.scale (λ q. x.entry r (order m n q)) x.positive (f r leaves.within)) (λ q l. sym (ap (λ z. after x.scale x.entry r c z (order m n q)) h ∙ after_at x.scale x.entry r c (order m n q)))
    | inr h ↦ leads-same m (λ q. x.entry r c *ℤ x.entry i (order m n q) -ℤ x.entry i c *ℤ x.entry r (order m n q)) (λ q. after x.scale x.entry r c i (order m n q)) (other i i_in h) (λ q l. sym (ap (λ z. x.entry r c *ℤ x.entry i (order m n q) -ℤ z *ℤ x.entry r (order m n q)) (let k = times_zero x.scale (delta i r) (delta-other i r h) in omega (arith, ints, k))))
  ]
    where
      other : (i : ℕ) → i < m → (i ≡ r → ⊥) → LeadsAbove m (λ q. x.entry r c *ℤ x.entry i (order m n q) -ℤ x.entry i c *ℤ x.entry r (order m n q))
      other i i_in h = elim (by_sign (x.entry i c)) [
        | inl k ↦ leads-less m (x.entry r c) (x.entry i c) (λ q. x.entry i (order m n q)) (λ q. x.entry r (order m n q)) leaves.above (omega (arith, ints)) (f i i_in) (f r leaves.within)
        | inr w ↦ elim w [
          | inl k ↦ leads-less m (x.entry r c) (x.entry i c) (λ q. x.entry i (order m n q)) (λ q. x.entry r (order m n q)) leaves.above (omega (arith, ints, k)) (f i i_in) (f r leaves.within)
          | inr k ↦ leaves.least i i_in h k
        ]
      ]

  -- the objective row grows in the order
  pub next_above : Feasible a m n b x → objective a m n b x c <ℤ pos 0 → ObjectiveBelow a m n b b' x next_tableau
  unfolding next_tableau exchanged
  next_above f negative =
      leads-same m (λ q. (x.scale *ℤ (pos 0 -ℤ objective a m n b x c)) *ℤ x.entry r (order m n q)) (λ q. x.scale *ℤ objective a m n b' next_tableau (order m n q) -ℤ (x.scale *ℤ x.entry r c) *ℤ objective a m n b x (order m n q))
      (leads-times m (x.scale *ℤ (pos 0 -ℤ objective a m n b x c)) (λ q. x.entry r (order m n q)) (product_above x.scale (pos 0 -ℤ objective a m n b x c) x.positive (omega (arith, ints))) (f r leaves.within))
      (λ q l. change (order m n q))
    where
      change : (j : ℕ) → (x.scale *ℤ (pos 0 -ℤ objective a m n b x c)) *ℤ x.entry r j ≡ x.scale *ℤ reduced m (cost m n) b' (x.scale *ℤ x.entry r c) (after x.scale x.entry r c) j -ℤ (x.scale *ℤ x.entry r c) *ℤ objective a m n b x j
      change j =
          let z = objective a m n b x j in
          let zc = objective a m n b x c in
          let h1 = ap (λ k. x.scale *ℤ k) (reduced_after m (cost m n) b b' x.scale x.entry r c leaves.within e j) in
          let h2 = times_less x.scale (x.entry r c *ℤ z) (zc *ℤ x.entry r j) in
          let h3 = mul_assoc_z x.scale (x.entry r c) z in
          let h4 = mul_assoc_z x.scale (pos 0 -ℤ zc) (x.entry r j) in
          let h5 = ap (λ k. x.scale *ℤ k) (less_times (pos 0) zc (x.entry r j)) in
          let h6 = times_less x.scale (pos 0 *ℤ x.entry r j) (zc *ℤ x.entry r j) in
          let h7 = times_zero x.scale (pos 0 *ℤ x.entry r j) (omega (arith, ints)) in
          omega (arith, ints, h1, h2, h3, h4, h5, h6, h7)

-- ---- what holds of one tableau of a basis holds of each
pub feasible-any : (a : ℕ → ℕ → ℤ) (m n : ℕ) (b : ℕ → ℕ) (x y : Tableau a m n b) → Feasible a m n b x → Feasible a m n b y
feasible-any a m n b x y f i i_in =
    leads-divide m x.scale (λ q. y.entry i (order m n q)) x.positive
    (leads-same m (λ q. y.scale *ℤ x.entry i (order m n q)) (λ q. x.scale *ℤ y.entry i (order m n q)) (leads-times m y.scale (λ q. x.entry i (order m n q)) y.positive (f i i_in)) (λ q l. same_tableau a m n b x y i (order m n q) i_in))

-- the objective rows of two bases of the same columns are equal, up to the scales
pub same_objective : (a : ℕ → ℕ → ℤ) (m n : ℕ) (b b' : ℕ → ℕ) (x : Tableau a m n b) (y : Tableau a m n b') → ((l : ℕ) → l < m → (k : ℕ) × (k < m) × (b l ≡ b' k)) → (j : ℕ) → y.scale *ℤ objective a m n b x j ≡ x.scale *ℤ objective a m n b' y j
same_objective a m n b b' x y h = same_reduced a m n b b' x y (cost m n) h

-- so no basis of the same columns is below
pub never_below : (a : ℕ → ℕ → ℤ) (m n : ℕ) (b b' : ℕ → ℕ) (x : Tableau a m n b) (y : Tableau a m n b') → ((l : ℕ) → l < m → (k : ℕ) × (k < m) × (b l ≡ b' k)) → ObjectiveBelow a m n b b' x y → ⊥
never_below a m n b b' x y h k = leads-never m (λ q. x.scale *ℤ objective a m n b' y (order m n q) -ℤ y.scale *ℤ objective a m n b x (order m n q)) k (λ q l. let s = same_objective a m n b b' x y h (order m n q) in omega (arith, ints, s))

-- what is above one tableau of a basis is above each
pub below-any : (a : ℕ → ℕ → ℤ) (m n : ℕ) (b b' : ℕ → ℕ) (x z : Tableau a m n b) (y : Tableau a m n b') → ObjectiveBelow a m n b b' x y → ObjectiveBelow a m n b b' z y
below-any a m n b b' x z y h =
    leads-divide m x.scale (λ q. z.scale *ℤ objective a m n b' y (order m n q) -ℤ y.scale *ℤ objective a m n b z (order m n q)) x.positive
    (leads-same m (λ q. z.scale *ℤ (x.scale *ℤ objective a m n b' y (order m n q) -ℤ y.scale *ℤ objective a m n b x (order m n q))) (λ q. x.scale *ℤ (z.scale *ℤ objective a m n b' y (order m n q) -ℤ y.scale *ℤ objective a m n b z (order m n q)))
    (leads-times m z.scale (λ q. x.scale *ℤ objective a m n b' y (order m n q) -ℤ y.scale *ℤ objective a m n b x (order m n q)) z.positive h)
    (λ q l. moved x.scale y.scale z.scale (objective a m n b x (order m n q)) (objective a m n b' y (order m n q)) (objective a m n b z (order m n q)) (same_objective a m n b b x z (λ l g. (l, g, refl)) (order m n q))))
  where
    moved : (p q r u v w : ℤ) → r *ℤ u ≡ p *ℤ w → r *ℤ (p *ℤ v -ℤ q *ℤ u) ≡ p *ℤ (r *ℤ v -ℤ q *ℤ w)
    moved p q r u v w e =
        let h1 = times_less r (p *ℤ v) (q *ℤ u) in
        let h2 = times_less p (r *ℤ v) (q *ℤ w) in
        let h3 = mul_swap r p v in
        let h4 = mul_swap r q u in
        let h5 = mul_swap p q w in
        let h6 = ap (λ z. q *ℤ z) e in
        omega (arith, ints, h1, h2, h3, h4, h5, h6)

pub joined : (p q r u v w : ℤ) → p *ℤ (q *ℤ w -ℤ r *ℤ v) +ℤ r *ℤ (p *ℤ v -ℤ q *ℤ u) ≡ q *ℤ (p *ℤ w -ℤ r *ℤ u)
joined p q r u v w =
    let h1 = times_less p (q *ℤ w) (r *ℤ v) in
    let h2 = times_less r (p *ℤ v) (q *ℤ u) in
    let h3 = times_less q (p *ℤ w) (r *ℤ u) in
    let h4 = mul_swap p q w in
    let h5 = mul_swap p r v in
    let h6 = mul_swap q r u in
    omega (arith, ints, h1, h2, h3, h4, h5, h6)

pub below-trans : (a : ℕ → ℕ → ℤ) (m n : ℕ) (b b' b'' : ℕ → ℕ) (x : Tableau a m n b) (y : Tableau a m n b') (z : Tableau a m n b'') → ObjectiveBelow a m n b b' x y → ObjectiveBelow a m n b' b'' y z → ObjectiveBelow a m n b b'' x z
below-trans a m n b b' b'' x y z h k =
    leads-divide m y.scale (λ q. x.scale *ℤ objective a m n b'' z (order m n q) -ℤ z.scale *ℤ objective a m n b x (order m n q)) y.positive
    (leads-same m
    (λ q. x.scale *ℤ (y.scale *ℤ objective a m n b'' z (order m n q) -ℤ z.scale *ℤ objective a m n b' y (order m n q)) +ℤ z.scale *ℤ (x.scale *ℤ objective a m n b' y (order m n q) -ℤ y.scale *ℤ objective a m n b x (order m n q)))
    (λ q. y.scale *ℤ (x.scale *ℤ objective a m n b'' z (order m n q) -ℤ z.scale *ℤ objective a m n b x (order m n q)))
    (leads-add m (λ q. x.scale *ℤ (y.scale *ℤ objective a m n b'' z (order m n q) -ℤ z.scale *ℤ objective a m n b' y (order m n q))) (λ q. z.scale *ℤ (x.scale *ℤ objective a m n b' y (order m n q) -ℤ y.scale *ℤ objective a m n b x (order m n q)))
    (leads-times m x.scale (λ q. y.scale *ℤ objective a m n b'' z (order m n q) -ℤ z.scale *ℤ objective a m n b' y (order m n q)) x.positive k)
    (leads-times m z.scale (λ q. x.scale *ℤ objective a m n b' y (order m n q) -ℤ y.scale *ℤ objective a m n b x (order m n q)) z.positive h))
    (λ q l. joined x.scale y.scale z.scale (objective a m n b x (order m n q)) (objective a m n b' y (order m n q)) (objective a m n b'' z (order m n q))))

-- ---- the artificial basis
module _ (a : ℕ → ℕ → ℤ) (m n : ℕ) (s : IsSystem a m n) (b : ℕ → ℕ) (start : (i : ℕ) → i < m → b i ≡ n + i) where
  unfoldable pub start_tableau : Tableau a m n b
  start_tableau = record {
    scale = pos 1;
    entry = a;
    positive = omega (arith, ints);
    combined = λ i j i_in. sym (
        total-same m (λ k. a i (n + k) *ℤ a k j) (λ k. delta k i *ℤ a k j) (λ k l. ap (λ z. z *ℤ a k j) (s.artificial i k i_in l ∙ delta-swap i k))
        ∙ total-delta m i (λ k. a k j) i_in
        );
    unit = λ i l i_in l_in. (let e = ap (a i) (start l l_in) ∙ s.artificial i l i_in l_in in omega (arith, ints, e));
    spanned = λ k j k_in.
        let e = total-same m (λ i. a i j *ℤ a k (b i)) (λ i. delta i k *ℤ a i j) (λ i l. *ℤ_comm (a i j) (a k (b i)) ∙ ap (λ z. z *ℤ a i j) (ap (a k) (start i l) ∙ s.artificial k i k_in l ∙ delta-swap k i)) ∙ total-delta m k (λ i. a i j) k_in in
        omega (arith, ints, e);
  }

  pub start_feasible : Feasible a m n b start_tableau
  unfolding start_tableau
  start_feasible i i_in = elim (by_sign (a i (n + m))) [
    | inl h ↦ (let k = s.right i i_in in absurd (omega (arith, ints, k)))
    | inr w ↦ elim w [
      | inl h ↦ record {
        place = suc i;
        within = omega arith;
        before = before h;
        here = subst (λ z. pos 0 <ℤ z) (sym (s.artificial i i i_in i_in ∙ delta-same i)) (omega (arith, ints));
      }
      | inr h ↦ record { place = 0; within = omega arith; before = λ q l. absurd (omega arith); here = h }
    ]
  ]
    where
      before : a i (n + m) ≡ pos 0 → (q : ℕ) → q < suc i → a i (order m n q) ≡ pos 0
      before h zero l = h
      before h (suc q) l = s.artificial i q i_in (omega arith) ∙ delta-above i q (omega arith)
