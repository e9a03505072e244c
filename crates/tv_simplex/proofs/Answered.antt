use Rattle.std.proofs.Common.{◌≡◌, ℕ, zero, suc, inl, inr, ◌+◌, ◌-◌, ◌<◌, ◌≤◌, arith, refl, sym, ap, ◌∙◌, ℤ, pos, ◌-ℤ◌, ◌*ℤ◌, ◌≤ℤ◌}
use Rattle.std.proofs.lemmas.Int.{ints}
use Rattle.std.proofs.Math.IntN.{*ℤ_comm}
use Rattle.tv_simplex.proofs.Ring.{by_sign, times_zero, zero_times, not_under_times, mul_swap, less_times}
use Rattle.tv_simplex.proofs.Sums.{total-same, total-zero, total-times, total-swap, total-delta, delta-same, delta-other, delta-swap}
use Rattle.tv_simplex.proofs.Objective.{times_taken, taken}
use Rattle.tv_simplex.proofs.GoesOn.{cost-none, cost-not_under, total-not_under, delta-not_under}
use Rattle.tv_simplex.specs.Sums.{total, delta}
use Rattle.tv_simplex.specs.Tableaus.{Tableau}
use Rattle.tv_simplex.specs.Chains.{cost, objective, Solves, NoneNegative}
use Rattle.tv_simplex.specs.Answers.{IsSolution, IsBarrier, values_of, barrier_of}
use Rattle.std.proofs.lemmas.Bool.{cases_lt, cases_eq}
use Rattle.tv_linear.proofs.ListLaws.{last_or_below}

-- 1 at an artificial column
pub cost-one : (m n i : ℕ) → i < m → cost m n (n + i) ≡ pos 1
cost-one m n i l = total-same m (λ k. delta (n + k) (n + i)) (λ k. delta k i *ℤ pos 1) (λ k g. at k) ∙ total-delta m i (λ k. pos 1) l
  where
    at : (k : ℕ) → delta (n + k) (n + i) ≡ delta k i *ℤ pos 1
    at k = elim (cases_eq k i) [
      | inl e ↦ (let p = ap (λ z. delta (n + z) (n + i)) e ∙ delta-same (n + i) in let q = ap (λ z. delta z i) e ∙ delta-same i in omega (arith, ints, p, q))
      | inr o ↦ (let p = delta-other (n + k) (n + i) (λ e. o (let f : k ≡ i = omega arith in f)) in let q = delta-other k i o in omega (arith, ints, p, q))
    ]

pub cost-right : (m n : ℕ) → cost m n (n + m) ≡ pos 0
cost-right m n = total-zero m (λ k. delta (n + k) (n + m)) (λ k l. delta-other (n + k) (n + m) (λ e. absurd (omega arith)))

-- ---- sums
none_of_zero : (k : ℕ) (f : ℕ → ℤ) → ((i : ℕ) → i < k → pos 0 ≤ℤ f i) → total k f ≡ pos 0 → (i : ℕ) → i < k → f i ≡ pos 0
none_of_zero zero f p e i l = absurd (omega arith)
none_of_zero (suc k) f p e i l =
    let u = total-not_under k f (λ q g. p q (omega arith)) in
    let w = p k (omega arith) in
    elim (last_or_below k i (omega arith)) [
      | inl h ↦ (let s = ap f h in omega (arith, ints, u, w, s, e))
      | inr h ↦ none_of_zero k f (λ q g. p q (omega arith)) (omega (arith, ints, u, w, e)) i h
    ]

-- where a sum is not 0 some part is not
some_of_sum : (k : ℕ) (f : ℕ → ℤ) → (total k f ≡ pos 0 → ⊥) → (i : ℕ) × (i < k) × (f i ≡ pos 0 → ⊥)
some_of_sum zero f h = absurd (h refl)
some_of_sum (suc k) f h = elim (by_sign (f k)) [
  | inl low ↦ (k, omega arith, λ e. absurd (omega (arith, ints, low, e)))
  | inr w ↦ elim w [
    | inl none ↦ (let p = some_of_sum k f (λ e. h (omega (arith, ints, e, none))) in (p.0, (let l = p.1 in omega (arith, l)), p.2))
    | inr high ↦ (k, omega arith, λ e. absurd (omega (arith, ints, high, e)))
  ]
]

-- ---- a basis that solves gives a solution
module _ (a : ℕ → ℕ → ℤ) (m n : ℕ) (b : ℕ → ℕ) (x : Tableau a m n b) where
  pub solution : Solves a m n b x → IsSolution a m n (values_of a m n b x) x.scale
  solution h = record {
    not_under = λ j l. total-not_under m (λ i. delta (b i) j *ℤ x.entry i (n + m)) (λ i i_in. not_under_times (delta (b i) j) (x.entry i (n + m)) (delta-not_under (b i) j) (h.values i i_in));
    positive = x.positive;
    met = λ k k_in.
        total-same n (λ j. a k j *ℤ total m (λ i. delta (b i) j *ℤ x.entry i (n + m))) (λ j. total m (λ i. delta j (b i) *ℤ (a k j *ℤ x.entry i (n + m)))) (λ j l. spread k j)
        ∙ total-swap n m (λ j i. delta j (b i) *ℤ (a k j *ℤ x.entry i (n + m)))
        ∙ total-same m (λ i. total n (λ j. delta j (b i) *ℤ (a k j *ℤ x.entry i (n + m)))) (λ i. x.entry i (n + m) *ℤ a k (b i)) (λ i l. at_row h k i l)
        ∙ (let s = x.spanned k (n + m) k_in in omega (arith, ints, s));
  }
    where
      spread : (k j : ℕ) → a k j *ℤ total m (λ i. delta (b i) j *ℤ x.entry i (n + m)) ≡ total m (λ i. delta j (b i) *ℤ (a k j *ℤ x.entry i (n + m)))
      spread k j =
          sym (total-times m (a k j) (λ i. delta (b i) j *ℤ x.entry i (n + m)))
          ∙ total-same m (λ i. a k j *ℤ (delta (b i) j *ℤ x.entry i (n + m))) (λ i. delta j (b i) *ℤ (a k j *ℤ x.entry i (n + m))) (λ i l. mul_swap (a k j) (delta (b i) j) (x.entry i (n + m)) ∙ ap (λ z. z *ℤ (a k j *ℤ x.entry i (n + m))) (delta-swap (b i) j))

      at_row : Solves a m n b x → (k i : ℕ) → i < m → total n (λ j. delta j (b i) *ℤ (a k j *ℤ x.entry i (n + m))) ≡ x.entry i (n + m) *ℤ a k (b i)
      at_row h k i l = elim (cases_lt (b i) n) [
        | inl g ↦ total-delta n (b i) (λ j. a k j *ℤ x.entry i (n + m)) g ∙ *ℤ_comm (a k (b i)) (x.entry i (n + m))
        | inr g ↦ (
            let z = h.artificial i l g in
            let none = total-zero n (λ j. delta j (b i) *ℤ (a k j *ℤ x.entry i (n + m))) (λ j j_in. times_zero (delta j (b i)) (a k j *ℤ x.entry i (n + m)) (times_zero (a k j) (x.entry i (n + m)) z)) in
            let w = zero_times (x.entry i (n + m)) (a k (b i)) z in
            omega (arith, ints, none, w))
      ]

  -- ---- the values of the artificial columns of the basis
  artificial_cost : (i : ℕ) → b i < n + m → n ≤ b i → cost m n (b i) ≡ pos 1
  artificial_cost i l g = (let e : b i ≡ n + (b i - n) = omega arith in ap (cost m n) e) ∙ cost-one m n (b i - n) (omega arith)

  -- where their sum is 0 each of them is
  values_none : ((i : ℕ) → i < m → pos 0 ≤ℤ x.entry i (n + m)) → ((i : ℕ) → i < m → b i < n + m) → total m (λ i. x.entry i (n + m) *ℤ cost m n (b i)) ≡ pos 0 → (i : ℕ) → i < m → n ≤ b i → x.entry i (n + m) ≡ pos 0
  values_none values inside e i l g =
      let z = none_of_zero m (λ i. x.entry i (n + m) *ℤ cost m n (b i)) (λ i l. not_under_times (x.entry i (n + m)) (cost m n (b i)) (values i l) (cost-not_under m n (b i))) e i l in
      let c = ap (λ y. x.entry i (n + m) *ℤ y) (artificial_cost i (inside i l) g) in
      omega (arith, ints, z, c)

  -- the right side of the objective row is 0 less their sum
  objective_right : objective a m n b x (n + m) ≡ pos 0 -ℤ total m (λ i. x.entry i (n + m) *ℤ cost m n (b i))
  objective_right = (let z = times_zero x.scale (cost m n (n + m)) (cost-right m n) in omega (arith, ints, z))

  pub artificial_none : ((i : ℕ) → i < m → pos 0 ≤ℤ x.entry i (n + m)) → ((i : ℕ) → i < m → b i < n + m) → objective a m n b x (n + m) ≡ pos 0 → (i : ℕ) → i < m → n ≤ b i → x.entry i (n + m) ≡ pos 0
  artificial_none values inside e = values_none values inside (let r = objective_right in omega (arith, ints, r, e))

  not_of_system : (i : ℕ) → ((x.entry i (n + m) *ℤ cost m n (b i)) ≡ pos 0 → ⊥) → n ≤ b i
  not_of_system i h = elim (cases_lt (b i) n) [
    | inl g ↦ absurd (h (times_zero (x.entry i (n + m)) (cost m n (b i)) (cost-none m n (b i) g)))
    | inr g ↦ g
  ]

  pub some_artificial : (objective a m n b x (n + m) ≡ pos 0 → ⊥) → (i : ℕ) × (i < m) × (n ≤ b i) × (x.entry i (n + m) ≡ pos 0 → ⊥)
  some_artificial h =
      let p = some_of_sum m (λ i. x.entry i (n + m) *ℤ cost m n (b i)) (λ e. h (objective_right ∙ omega (arith, ints, e))) in
      (p.0, p.1, not_of_system p.0 p.2, λ e. p.2 (zero_times (x.entry p.0 (n + m)) (cost m n (b p.0)) e))

  -- what the objective row is a combination of
  barrier_is : (k : ℕ) → k < m → barrier_of a m n b x k ≡ pos 0 -ℤ times_taken a m n b x (cost m n) k
  unfolding times_taken
  barrier_is k l =
      let c = cost-one m n k l in
      let e = ap (λ z. x.scale *ℤ z) c in
      omega (arith, ints, e)

  barrier_sum : (j : ℕ) → total m (λ k. barrier_of a m n b x k *ℤ a k j) ≡ pos 0 -ℤ total m (λ i. x.entry i j *ℤ cost m n (b i))
  barrier_sum j =
      let t = times_taken a m n b x (cost m n) in
      total-same m (λ k. barrier_of a m n b x k *ℤ a k j) (λ k. (pos 0 -ℤ pos 1) *ℤ (t k *ℤ a k j)) (λ k l. ap (λ z. z *ℤ a k j) (barrier_is k l) ∙ opposite (t k) (a k j))
      ∙ total-times m (pos 0 -ℤ pos 1) (λ k. t k *ℤ a k j)
      ∙ (let e = taken a m n b x (cost m n) j in omega (arith, ints, e))
    where
      opposite : (u w : ℤ) → (pos 0 -ℤ u) *ℤ w ≡ (pos 0 -ℤ pos 1) *ℤ (u *ℤ w)
      opposite u w = let d = less_times (pos 0) u w in omega (arith, ints, d)

  -- one that does not solve, without a negative objective entry, gives a barrier
  pub barrier : ((i : ℕ) → i < m → pos 0 ≤ℤ x.entry i (n + m)) → ((i : ℕ) → i < m → b i < n + m) → (Solves a m n b x → ⊥) → NoneNegative a m n b x → IsBarrier a m n (barrier_of a m n b x)
  barrier values inside unsolved none = record {
    not_under = λ j l.
        let s = barrier_sum j in
        let h = none j l in
        let z = times_zero x.scale (cost m n j) (cost-none m n j l) in
        omega (arith, ints, s, h, z);
    below = (
        let s = barrier_sum (n + m) in
        elim (by_sign (total m (λ i. x.entry i (n + m) *ℤ cost m n (b i)))) [
          | inl low ↦ (let u = total-not_under m (λ i. x.entry i (n + m) *ℤ cost m n (b i)) (λ i l. not_under_times (x.entry i (n + m)) (cost m n (b i)) (values i l) (cost-not_under m n (b i))) in absurd (omega (arith, ints, u)))
          | inr w ↦ elim w [
            | inr high ↦ omega (arith, ints, s, high)
            | inl e ↦ absurd (unsolved (record { values = values; artificial = values_none values inside e }))
          ]
        ]);
  }
