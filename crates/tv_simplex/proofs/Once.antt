use Rattle.std.proofs.Common.{◌≡◌, ℕ, inl, inr, ◌<◌, List, [], ◌∷◌, length, set, arith, refl, sym, ap, ◌∙◌, subst, ℤ, pos, ◌+ℤ◌, ◌-ℤ◌, ◌*ℤ◌, ◌<ℤ◌}
use Rattle.std.proofs.lemmas.Int.{ints}
use Rattle.tv_linear.proofs.Ring.{mul_assoc_z}
use Rattle.tv_simplex.proofs.Ring.{times_zero, is_above, mul_swap, times_less}
use Rattle.tv_simplex.proofs.Leads.{leads-times, leads-add, leads-never}
use Rattle.tv_simplex.proofs.Unique.{same_tableau}
use Rattle.tv_simplex.proofs.Steps.{same_objective}
use Rattle.tv_simplex.specs.Tableaus.{Tableau}
use Rattle.tv_simplex.specs.Chains.{order, objective, column, Enters, Leaves, Step, IsChain}
use Rattle.std.proofs.lemmas.Grind.{same_number_lists}
use Rattle.std.proofs.lemmas.Bool.{cases_eq, cases_order}
use Rattle.tv_fraction.proofs.Products.{product_above}

above_too : (p q u v : ℤ) → pos 0 <ℤ p → pos 0 <ℤ q → p *ℤ u ≡ q *ℤ v → pos 0 <ℤ u → pos 0 <ℤ v
above_too p q u v h k e l = let a = product_above p u h l in is_above q v k (omega (arith, ints, a, e))

below_too : (p q u v : ℤ) → pos 0 <ℤ p → pos 0 <ℤ q → p *ℤ u ≡ q *ℤ v → u <ℤ pos 0 → v <ℤ pos 0
below_too p q u v h k e l =
    let a = times_less p (pos 0) u in
    let b = times_less q (pos 0) v in
    let z = times_zero p (pos 0) refl in
    let z' = times_zero q (pos 0) refl in
    let c = above_too p q (pos 0 -ℤ u) (pos 0 -ℤ v) h k (omega (arith, ints, a, b, z, z', e)) (omega (arith, ints)) in
    omega (arith, ints)

mul_four : (p u w : ℤ) → (p *ℤ p) *ℤ (u *ℤ w) ≡ (p *ℤ u) *ℤ (p *ℤ w)
mul_four p u w = mul_assoc_z p p (u *ℤ w) ∙ ap (λ z. p *ℤ z) (mul_swap p u w) ∙ sym (mul_assoc_z p u (p *ℤ w))

both : (p q u v w z : ℤ) → p *ℤ u ≡ q *ℤ v → p *ℤ w ≡ q *ℤ z → (p *ℤ p) *ℤ (u *ℤ w) ≡ (q *ℤ q) *ℤ (v *ℤ z)
both p q u v w z e f = mul_four p u w ∙ (λ i. e i *ℤ f i) ∙ sym (mul_four q v z)

module _ (a : ℕ → ℕ → ℤ) (m n : ℕ) (b : ℕ → ℕ) (x y : Tableau a m n b) where
  entered : (c c' : ℕ) → Enters a m n b x c → Enters a m n b y c' → c < c' → ⊥
  entered c c' h k l =
      let e = same_objective a m n b b x y (λ i g. (i, g, refl)) c in
      let u = below_too y.scale x.scale (objective a m n b x c) (objective a m n b y c) y.positive x.positive e h.negative in
      let w = k.first c l in
      absurd (omega (arith, ints, u, w))

  left : (c r r' : ℕ) → Leaves a m n b x c r → Leaves a m n b y c r' → (r' ≡ r → ⊥) → ⊥
  left c r r' h k o =
      let e = same_tableau a m n b x y in
      let up = above_too x.scale y.scale (y.entry r' c) (x.entry r' c) x.positive y.positive (sym (e r' c k.within)) k.above in
      let up' = above_too y.scale x.scale (x.entry r c) (y.entry r c) y.positive x.positive (e r c h.within) h.above in
      let p = leads-times m (y.scale *ℤ y.scale) (λ q. x.entry r c *ℤ x.entry r' (order m n q) -ℤ x.entry r' c *ℤ x.entry r (order m n q)) (product_above y.scale y.scale y.positive y.positive) (h.least r' k.within o up) in
      let q = leads-times m (x.scale *ℤ x.scale) (λ q. y.entry r' c *ℤ y.entry r (order m n q) -ℤ y.entry r c *ℤ y.entry r' (order m n q)) (product_above x.scale x.scale x.positive x.positive) (k.least r h.within (λ s. o (sym s)) up') in
      leads-never m (λ q. (y.scale *ℤ y.scale) *ℤ (x.entry r c *ℤ x.entry r' (order m n q) -ℤ x.entry r' c *ℤ x.entry r (order m n q)) +ℤ (x.scale *ℤ x.scale) *ℤ (y.entry r' c *ℤ y.entry r (order m n q) -ℤ y.entry r c *ℤ y.entry r' (order m n q)))
      (leads-add m (λ q. (y.scale *ℤ y.scale) *ℤ (x.entry r c *ℤ x.entry r' (order m n q) -ℤ x.entry r' c *ℤ x.entry r (order m n q))) (λ q. (x.scale *ℤ x.scale) *ℤ (y.entry r' c *ℤ y.entry r (order m n q) -ℤ y.entry r c *ℤ y.entry r' (order m n q))) p q)
      (λ q l. none (order m n q))
    where
      none : (j : ℕ) → (y.scale *ℤ y.scale) *ℤ (x.entry r c *ℤ x.entry r' j -ℤ x.entry r' c *ℤ x.entry r j) +ℤ (x.scale *ℤ x.scale) *ℤ (y.entry r' c *ℤ y.entry r j -ℤ y.entry r c *ℤ y.entry r' j) ≡ pos 0
      none j =
          let e = same_tableau a m n b x y in
          let h1 = times_less (y.scale *ℤ y.scale) (x.entry r c *ℤ x.entry r' j) (x.entry r' c *ℤ x.entry r j) in
          let h2 = times_less (x.scale *ℤ x.scale) (y.entry r' c *ℤ y.entry r j) (y.entry r c *ℤ y.entry r' j) in
          let h3 = both y.scale x.scale (x.entry r c) (y.entry r c) (x.entry r' j) (y.entry r' j) (e r c h.within) (e r' j k.within) in
          let h4 = both y.scale x.scale (x.entry r' c) (y.entry r' c) (x.entry r j) (y.entry r j) (e r' c k.within) (e r j h.within) in
          omega (arith, ints, h1, h2, h3, h4)

-- the next basis is one
pub one_step : (a : ℕ → ℕ → ℤ) (m n : ℕ) (old new new' : List ℕ) → Step a m n old new → Step a m n old new' → new ≡ new'
one_step a m n old new new' s t = elim (cases_order s.entering t.entering) [
  | inl e ↦ elim (cases_eq t.leaving s.leaving) [
    | inl f ↦ s.next ∙ (λ i. set old (sym f i) (e i)) ∙ sym t.next
    | inr o ↦ absurd (left a m n (column old) s.table t.table s.entering s.leaving t.leaving s.leaves (subst (λ c. Leaves a m n (column old) t.table c t.leaving) (sym e) t.leaves) o)
  ]
  | inr w ↦ elim w [
    | inl l ↦ absurd (entered a m n (column old) s.table t.table s.entering t.entering s.enters t.enters l)
    | inr l ↦ absurd (entered a m n (column old) t.table s.table t.entering s.entering t.enters s.enters l)
  ]
]

-- the first bases of the chain are one list
pub one_chain : (a : ℕ → ℕ → ℤ) (m n : ℕ) (bs bs' : List (List ℕ)) → IsChain a m n bs → IsChain a m n bs' → length bs ≡ length bs' → bs ≡ bs'
one_chain a m n [] bs' h k e = absurd h
one_chain a m n (b ∷ bs) [] h k e = absurd k
one_chain a m n (b ∷ []) (b' ∷ []) h k e = ap (λ l. l ∷ []) (same_number_lists b b' (h.size ∙ sym k.size) (λ i l. let s = h.size in h.columns i (omega arith) ∙ sym (k.columns i (omega arith))))
one_chain a m n (b ∷ []) (b' ∷ (o' ∷ bs')) h k e = absurd (omega arith)
one_chain a m n (b ∷ (o ∷ bs)) (b' ∷ []) h k e = absurd (omega arith)
one_chain a m n (b ∷ (o ∷ bs)) (b' ∷ (o' ∷ bs')) h k e =
    let before = one_chain a m n (o ∷ bs) (o' ∷ bs') h.1 k.1 (omega arith) in
    let old : o' ≡ o = cc in
    let here = one_step a m n o b b' h.0 (subst (λ l. Step a m n l b') old k.0) in
    (λ i. here i ∷ before i)
