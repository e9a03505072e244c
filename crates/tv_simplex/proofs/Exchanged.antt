use Rattle.std.proofs.Common.{◌≡◌, ℕ, ◌+◌, ◌<◌, inl, inr, arith, sym, ap, ◌∙◌, ℤ, pos, ◌+ℤ◌, ◌-ℤ◌, ◌*ℤ◌, ◌<ℤ◌}
use Rattle.std.proofs.lemmas.Int.{ints}
use Rattle.std.proofs.Math.IntN.{*ℤ_comm}
use Rattle.tv_linear.proofs.Ring.{mul_assoc_z}
use Rattle.tv_simplex.proofs.Ring.{mul_swap, times_zero, zero_times, less_times, times_less}
use Rattle.tv_simplex.proofs.Sums.{total-same, total-times, total-add, total-less, total-two, total-delta, delta-swap, delta-same, delta-other}
use Rattle.tv_simplex.specs.Sums.{total, delta}
use Rattle.tv_simplex.specs.Tableaus.{Tableau, reduced, Exchange}
use Rattle.std.proofs.lemmas.Bool.{cases_eq}
use Rattle.tv_fraction.proofs.Products.{product_above}

-- the table after an exchange at row r and column c, times a further scale
abbrev pub after : ℤ → (ℕ → ℕ → ℤ) → ℕ → ℕ → ℕ → ℕ → ℤ
after scale t r c i j = t r c *ℤ t i j -ℤ (t i c -ℤ scale *ℤ delta i r) *ℤ t r j

-- its row r is the old one times the old scale
pub after_at : (s : ℤ) (t : ℕ → ℕ → ℤ) (r c j : ℕ) → after s t r c r j ≡ s *ℤ t r j
after_at s t r c j =
    let one = ap (λ z. (t r c -ℤ s *ℤ z) *ℤ t r j) (delta-same r) in
    let d = less_times (t r c) (s *ℤ pos 1) (t r j) in
    let e : s *ℤ pos 1 ≡ s = omega (arith, ints) in
    let f = ap (λ z. z *ℤ t r j) e in
    omega (arith, ints, one, d, f)

-- what is left of any row e changes by its number in column c times row r
pub reduced_after : (m : ℕ) (e : ℕ → ℤ) (b b' : ℕ → ℕ) (s : ℤ) (t : ℕ → ℕ → ℤ) (r c : ℕ) → r < m → Exchange m b b' r c → (j : ℕ) → reduced m e b' (s *ℤ t r c) (after s t r c) j ≡ t r c *ℤ reduced m e b s t j -ℤ reduced m e b s t c *ℤ t r j
reduced_after m e b b' s t r c r_in x j =
    let d = t r c in
    let g = λ (i : ℕ). t i c -ℤ s *ℤ delta i r in
    let new = λ (i : ℕ). after s t r c i j in
    -- the sum over the new basis
    let moved : total m (λ i. new i *ℤ e (b' i)) ≡ total m (λ i. new i *ℤ e (b i)) +ℤ new r *ℤ (e c -ℤ e (b r)) =
    total-same m (λ i. new i *ℤ e (b' i)) (λ i. new i *ℤ e (b i) +ℤ delta i r *ℤ (new i *ℤ (e c -ℤ e (b r)))) one
    ∙ total-add m (λ i. new i *ℤ e (b i)) (λ i. delta i r *ℤ (new i *ℤ (e c -ℤ e (b r))))
    ∙ ap (λ z. total m (λ i. new i *ℤ e (b i)) +ℤ z) (total-delta m r (λ i. new i *ℤ (e c -ℤ e (b r))) r_in) in
    let old : total m (λ i. new i *ℤ e (b i)) ≡ d *ℤ total m (λ i. t i j *ℤ e (b i)) -ℤ t r j *ℤ total m (λ i. g i *ℤ e (b i)) =
    total-same m (λ i. new i *ℤ e (b i)) (λ i. (d *ℤ t i j -ℤ t r j *ℤ g i) *ℤ e (b i)) (λ i l. ap (λ z. (d *ℤ t i j -ℤ z) *ℤ e (b i)) (*ℤ_comm (g i) (t r j)))
    ∙ total-two m d (t r j) (λ i. t i j) g (λ i. e (b i)) in
    let parts : total m (λ i. g i *ℤ e (b i)) ≡ total m (λ i. t i c *ℤ e (b i)) -ℤ s *ℤ e (b r) =
    total-same m (λ i. g i *ℤ e (b i)) (λ i. t i c *ℤ e (b i) -ℤ s *ℤ (delta i r *ℤ e (b i))) (λ i l. less_times (t i c) (s *ℤ delta i r) (e (b i)) ∙ ap (λ z. t i c *ℤ e (b i) -ℤ z) (mul_assoc_z s (delta i r) (e (b i))))
    ∙ total-less m (λ i. t i c *ℤ e (b i)) (λ i. s *ℤ (delta i r *ℤ e (b i)))
    ∙ ap (λ z. total m (λ i. t i c *ℤ e (b i)) -ℤ z) (total-times m s (λ i. delta i r *ℤ e (b i)) ∙ ap (λ z. s *ℤ z) (total-delta m r (λ i. e (b i)) r_in)) in
    finish (total m (λ i. t i j *ℤ e (b i))) (total m (λ i. t i c *ℤ e (b i))) d s (t r j) (e j) (e c) (e (b r)) (new r) (after_at s t r c j)
    (total m (λ i. new i *ℤ e (b' i)))
    (moved ∙ ap (λ z. z +ℤ new r *ℤ (e c -ℤ e (b r))) (old ∙ ap (λ z. d *ℤ total m (λ i. t i j *ℤ e (b i)) -ℤ t r j *ℤ z) parts))
  where
    one : (i : ℕ) → i < m → after s t r c i j *ℤ e (b' i) ≡ after s t r c i j *ℤ e (b i) +ℤ delta i r *ℤ (after s t r c i j *ℤ (e c -ℤ e (b r)))
    one i l = elim (cases_eq i r) [
      | inl h ↦ (
          let new = after s t r c i j in
          let k : delta i r ≡ pos 1 = ap (λ q. delta q r) h ∙ delta-same r in
          let q = ap (λ z. z *ℤ (new *ℤ (e c -ℤ e (b r)))) k in
          let p : e (b' i) ≡ e c = ap (λ z. e (b' z)) h ∙ ap e x.at_place in
          let p' : e (b i) ≡ e (b r) = ap (λ z. e (b z)) h in
          let u = ap (λ z. new *ℤ z) p in
          let v = ap (λ z. new *ℤ z) p' in
          let w = times_less new (e c) (e (b r)) in
          omega (arith, ints, q, u, v, w))
      | inr h ↦ (
          let new = after s t r c i j in
          let q = zero_times (delta i r) (new *ℤ (e c -ℤ e (b r))) (delta-other i r h) in
          let p = ap (λ z. new *ℤ e z) (x.elsewhere i l h) in
          omega (arith, ints, q, p))
    ]

    finish : (sj sc d s trj ej ec er nr : ℤ) → nr ≡ s *ℤ trj → (sum : ℤ) → sum ≡ (d *ℤ sj -ℤ trj *ℤ (sc -ℤ s *ℤ er)) +ℤ nr *ℤ (ec -ℤ er) → (s *ℤ d) *ℤ ej -ℤ sum ≡ d *ℤ (s *ℤ ej -ℤ sj) -ℤ (s *ℤ ec -ℤ sc) *ℤ trj
    finish sj sc d s trj ej ec er nr n sum h =
        let h1 = times_less trj sc (s *ℤ er) in
        let h2 = ap (λ z. z *ℤ (ec -ℤ er)) n ∙ times_less (s *ℤ trj) ec er in
        let h3 = mul_assoc_z s trj ec in
        let h4 = mul_assoc_z s trj er in
        let h5 = mul_swap trj s er in
        let h6 = less_times (s *ℤ ec) sc trj in
        let h7 = mul_assoc_z s ec trj in
        let h8 = ap (λ z. s *ℤ z) (*ℤ_comm ec trj) in
        let h9 = times_less d (s *ℤ ej) sj in
        let h10 = ap (λ z. z *ℤ ej) (*ℤ_comm s d) ∙ mul_assoc_z d s ej in
        let h11 = *ℤ_comm sc trj in
        omega (arith, ints, h1, h2, h3, h4, h5, h6, h7, h8, h9, h10, h11, h)

-- an exchange of one column gives a tableau of the new basis
module _ (a : ℕ → ℕ → ℤ) (m n : ℕ) (b b' : ℕ → ℕ) (x : Tableau a m n b) (r c : ℕ) (r_in : r < m) (e : Exchange m b b' r c) (above : pos 0 <ℤ x.entry r c) where
  pub after_combined : (i j : ℕ) → i < m → after x.scale x.entry r c i j ≡ total m (λ k. after x.scale x.entry r c i (n + k) *ℤ a k j)
  after_combined i j i_in =
      let d = x.entry r c in
      let g = x.entry i c -ℤ x.scale *ℤ delta i r in
      (λ q. d *ℤ x.combined i j i_in q -ℤ g *ℤ x.combined r j r_in q)
      ∙ sym (total-two m d g (λ k. x.entry i (n + k)) (λ k. x.entry r (n + k)) (λ k. a k j))

  pub after_unit : (i l : ℕ) → i < m → l < m → after x.scale x.entry r c i (b' l) ≡ (x.scale *ℤ x.entry r c) *ℤ delta i l
  after_unit i l i_in l_in = elim (cases_eq l r) [
    | inl h ↦ (
        let to_c = ap (after x.scale x.entry r c i) (ap b' h ∙ e.at_place) in
        let d = x.entry r c in
        let h1 = less_times (x.entry i c) (x.scale *ℤ delta i r) d in
        let h2 = *ℤ_comm (x.entry i c) d in
        let h3 = mul_assoc_z x.scale (delta i r) d ∙ ap (λ z. x.scale *ℤ z) (*ℤ_comm (delta i r) d) ∙ sym (mul_assoc_z x.scale d (delta i r)) in
        let h4 = ap (λ q. (x.scale *ℤ d) *ℤ delta i q) h in
        omega (arith, ints, to_c, h1, h2, h3, h4))
    | inr h ↦ (
        let to_b = ap (after x.scale x.entry r c i) (e.elsewhere l l_in h) in
        let d = x.entry r c in
        let g = x.entry i c -ℤ x.scale *ℤ delta i r in
        let h1 = ap (λ z. d *ℤ z) (x.unit i l i_in l_in) in
        let h2 = x.unit r l r_in l_in ∙ times_zero x.scale (delta r l) (delta-swap r l ∙ delta-other l r h) in
        let h3 = times_zero g (x.entry r (b l)) h2 in
        let h4 = ap (λ z. z *ℤ delta i l) (*ℤ_comm x.scale d) ∙ mul_assoc_z d x.scale (delta i l) in
        omega (arith, ints, to_b, h1, h3, h4))
  ]

  unfoldable pub exchanged : Tableau a m n b'
  exchanged = record {
    scale = x.scale *ℤ x.entry r c;
    entry = after x.scale x.entry r c;
    positive = product_above x.scale (x.entry r c) x.positive above;
    combined = after_combined;
    unit = after_unit;
    spanned = λ k j k_in.
        let s = reduced_after m (a k) b b' x.scale x.entry r c r_in e j in
        let p = times_zero (x.entry r c) (reduced m (a k) b x.scale x.entry j) (x.spanned k j k_in) in
        let q = zero_times (reduced m (a k) b x.scale x.entry c) (x.entry r j) (x.spanned k c k_in) in
        omega (arith, ints, s, p, q);
  }
