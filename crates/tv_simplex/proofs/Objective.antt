use Rattle.std.proofs.Common.{◌≡◌, ℕ, ◌+◌, ◌<◌, arith, sym, ap, ◌∙◌, ℤ, pos, ◌-ℤ◌, ◌*ℤ◌}
use Rattle.std.proofs.lemmas.Int.{ints}
use Rattle.std.proofs.Math.IntN.{*ℤ_comm}
use Rattle.tv_linear.proofs.Ring.{mul_assoc_z}
use Rattle.tv_simplex.proofs.Ring.{mul_swap, times_zero, times_less}
use Rattle.tv_simplex.proofs.Sums.{total-same, total-times, total-swap, total-two, total-delta}
use Rattle.tv_simplex.proofs.Unique.{total-times_right, vanish}
use Rattle.tv_simplex.specs.Sums.{total, delta}
use Rattle.tv_simplex.specs.Tableaus.{Tableau, reduced}

module _ (a : ℕ → ℕ → ℤ) (m n : ℕ) (b : ℕ → ℕ) (x : Tableau a m n b) (e : ℕ → ℤ) where
  -- how often each row of the system is in what is taken from e
  unfoldable pub times_taken : ℕ → ℤ
  times_taken k = total m (λ i. x.entry i (n + k) *ℤ e (b i))

  pub taken : (j : ℕ) → total m (λ i. x.entry i j *ℤ e (b i)) ≡ total m (λ k. times_taken k *ℤ a k j)
  unfolding times_taken
  taken j =
      total-same m (λ i. x.entry i j *ℤ e (b i)) (λ i. total m (λ k. (x.entry i (n + k) *ℤ e (b i)) *ℤ a k j)) row
      ∙ total-swap m m (λ i k. (x.entry i (n + k) *ℤ e (b i)) *ℤ a k j)
      ∙ total-same m (λ k. total m (λ i. (x.entry i (n + k) *ℤ e (b i)) *ℤ a k j)) (λ k. total m (λ i. x.entry i (n + k) *ℤ e (b i)) *ℤ a k j) (λ k l. total-times_right m (λ i. x.entry i (n + k) *ℤ e (b i)) (a k j))
    where
      row : (i : ℕ) → i < m → x.entry i j *ℤ e (b i) ≡ total m (λ k. (x.entry i (n + k) *ℤ e (b i)) *ℤ a k j)
      row i l =
          ap (λ z. z *ℤ e (b i)) (x.combined i j l)
          ∙ sym (total-times_right m (λ k. x.entry i (n + k) *ℤ a k j) (e (b i)))
          ∙ total-same m (λ k. (x.entry i (n + k) *ℤ a k j) *ℤ e (b i)) (λ k. (x.entry i (n + k) *ℤ e (b i)) *ℤ a k j) (λ k g. mul_assoc_z (x.entry i (n + k)) (a k j) (e (b i)) ∙ ap (λ z. x.entry i (n + k) *ℤ z) (*ℤ_comm (a k j) (e (b i))) ∙ sym (mul_assoc_z (x.entry i (n + k)) (e (b i)) (a k j)))

  pub reduced_zero : (l : ℕ) → l < m → reduced m e b x.scale x.entry (b l) ≡ pos 0
  reduced_zero l h =
      let s = total-same m (λ i. x.entry i (b l) *ℤ e (b i)) (λ i. x.scale *ℤ (delta i l *ℤ e (b i))) (λ i g. ap (λ z. z *ℤ e (b i)) (x.unit i l g h) ∙ mul_assoc_z x.scale (delta i l) (e (b i))) in
      let t = total-times m x.scale (λ i. delta i l *ℤ e (b i)) in
      let u = ap (λ z. x.scale *ℤ z) (total-delta m l (λ i. e (b i)) h) in
      omega (arith, ints, s, t, u)

-- what is left of a row is the same for two bases of the same columns, up to the scales
pub same_reduced : (a : ℕ → ℕ → ℤ) (m n : ℕ) (b b' : ℕ → ℕ) (x : Tableau a m n b) (y : Tableau a m n b') (e : ℕ → ℤ) → ((l : ℕ) → l < m → (k : ℕ) × (k < m) × (b l ≡ b' k)) → (j : ℕ) → y.scale *ℤ reduced m e b x.scale x.entry j ≡ x.scale *ℤ reduced m e b' y.scale y.entry j
same_reduced a m n b b' x y e inside j =
    let z = vanish a m n b x (λ k. x.scale *ℤ times_taken a m n b' y e k -ℤ y.scale *ℤ times_taken a m n b x e k) at_basis j in
    let g = difference j in
    omega (arith, ints, z, g)
  where
    difference : (j : ℕ) → total m (λ k. (x.scale *ℤ times_taken a m n b' y e k -ℤ y.scale *ℤ times_taken a m n b x e k) *ℤ a k j) ≡ y.scale *ℤ reduced m e b x.scale x.entry j -ℤ x.scale *ℤ reduced m e b' y.scale y.entry j
    difference j =
        let t = total-two m x.scale y.scale (times_taken a m n b' y e) (times_taken a m n b x e) (λ k. a k j) in
        let p = ap (λ z. y.scale *ℤ z) (taken a m n b x e j) in
        let q = ap (λ z. x.scale *ℤ z) (taken a m n b' y e j) in
        let u = times_less y.scale (x.scale *ℤ e j) (total m (λ i. x.entry i j *ℤ e (b i))) in
        let v = times_less x.scale (y.scale *ℤ e j) (total m (λ i. y.entry i j *ℤ e (b' i))) in
        let w = mul_swap x.scale y.scale (e j) in
        omega (arith, ints, t, p, q, u, v, w)

    at_basis : (l : ℕ) → l < m → total m (λ k. (x.scale *ℤ times_taken a m n b' y e k -ℤ y.scale *ℤ times_taken a m n b x e k) *ℤ a k (b l)) ≡ pos 0
    at_basis l h =
        let k = inside l h in
        let p = times_zero y.scale (reduced m e b x.scale x.entry (b l)) (reduced_zero a m n b x e l h) in
        let q = times_zero x.scale (reduced m e b' y.scale y.entry (b l)) (ap (reduced m e b' y.scale y.entry) k.2 ∙ reduced_zero a m n b' y e k.0 k.1) in
        let d = difference (b l) in
        omega (arith, ints, d, p, q)
