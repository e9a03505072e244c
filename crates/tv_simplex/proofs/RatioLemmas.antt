use Rattle.std.proofs.Common.{◌≡◌, inl, inr, arith, refl, sym, ap, ◌∙◌, ℤ, pos, ◌-ℤ◌, ◌*ℤ◌, ◌<ℤ◌, ◌≤ℤ◌}
use Rattle.std.proofs.lemmas.Int.{ints}
use Rattle.std.proofs.Math.IntN.{*ℤ_comm}
use Rattle.tv_linear.proofs.Ring.{mul_assoc_z}
use Rattle.tv_simplex.proofs.Ring.{by_sign, zero_times, is_above, is_zero, mul_swap, times_less, less_times, same_factor}
use Rattle.tv_simplex.specs.Ratios.{Ratio, IsRatio, IsQuotient, IsProduct, IsDifference}
use Rattle.tv_fraction.proofs.Products.{product_above}

-- ---- products of four
pub four : (a b c d : ℤ) → (a *ℤ b) *ℤ (c *ℤ d) ≡ (a *ℤ c) *ℤ (b *ℤ d)
four a b c d = mul_assoc_z a b (c *ℤ d) ∙ ap (λ z. a *ℤ z) (mul_swap b c d) ∙ sym (mul_assoc_z a c (b *ℤ d))

pub ratio_times : (f : Ratio) (v s k : ℤ) → IsRatio f v s → IsRatio f (k *ℤ v) (k *ℤ s)
ratio_times f v s k h = record { positive = h.positive; same = mul_swap f.numerator k s ∙ ap (λ z. k *ℤ z) h.same ∙ sym (mul_assoc_z k v f.denominator) }

pub ratio_same : (f : Ratio) (v w s t : ℤ) → IsRatio f v s → v ≡ w → s ≡ t → IsRatio f w t
ratio_same f v w s t h e g = record { positive = h.positive; same = ap (λ z. f.numerator *ℤ z) (sym g) ∙ h.same ∙ ap (λ z. z *ℤ f.denominator) e }

-- g is v / s and h is w / s, so g / h is v / w
pub quotient : (f g h : Ratio) (v w s : ℤ) → pos 0 <ℤ s → IsRatio g v s → IsRatio h w s → IsQuotient f g h → IsRatio f v w
quotient f g h v w s p rg rh q =
    let k = product_above g.denominator h.denominator rg.positive rh.positive in
    -- s * (f.numerator * (g.denominator * h.numerator)) = f.numerator * ((w * h.denominator) * g.denominator)
    let e1 : s *ℤ (f.numerator *ℤ (g.denominator *ℤ h.numerator)) ≡ (g.denominator *ℤ h.denominator) *ℤ (f.numerator *ℤ w) =
    mul_swap s f.numerator (g.denominator *ℤ h.numerator)
    ∙ ap (λ z. f.numerator *ℤ z) (mul_swap s g.denominator h.numerator ∙ ap (λ z. g.denominator *ℤ z) (*ℤ_comm s h.numerator ∙ rh.same ∙ *ℤ_comm w h.denominator) ∙ sym (mul_assoc_z g.denominator h.denominator w))
    ∙ mul_swap f.numerator (g.denominator *ℤ h.denominator) w in
    let e2 : s *ℤ ((g.numerator *ℤ h.denominator) *ℤ f.denominator) ≡ (g.denominator *ℤ h.denominator) *ℤ (v *ℤ f.denominator) =
    sym (mul_assoc_z s (g.numerator *ℤ h.denominator) f.denominator)
    ∙ ap (λ z. z *ℤ f.denominator) (sym (mul_assoc_z s g.numerator h.denominator) ∙ ap (λ z. z *ℤ h.denominator) (*ℤ_comm s g.numerator ∙ rg.same ∙ *ℤ_comm v g.denominator) ∙ mul_assoc_z g.denominator v h.denominator ∙ ap (λ z. g.denominator *ℤ z) (*ℤ_comm v h.denominator) ∙ sym (mul_assoc_z g.denominator h.denominator v))
    ∙ mul_assoc_z (g.denominator *ℤ h.denominator) v f.denominator in
    record {
      positive = q.positive;
      same = same_factor (g.denominator *ℤ h.denominator) (f.numerator *ℤ w) (v *ℤ f.denominator) k (sym e1 ∙ ap (λ z. s *ℤ z) q.same ∙ e2);
    }

-- g is v / s and h is w / t, so g * h is (v * w) / (s * t)
pub product : (f g h : Ratio) (v w s t : ℤ) → IsRatio g v s → IsRatio h w t → IsProduct f g h → IsRatio f (v *ℤ w) (s *ℤ t)
product f g h v w s t rg rh q =
    let k = product_above g.denominator h.denominator rg.positive rh.positive in
    let e1 : (s *ℤ t) *ℤ ((g.numerator *ℤ h.numerator) *ℤ f.denominator) ≡ (g.denominator *ℤ h.denominator) *ℤ ((v *ℤ w) *ℤ f.denominator) =
    sym (mul_assoc_z (s *ℤ t) (g.numerator *ℤ h.numerator) f.denominator)
    ∙ ap (λ z. z *ℤ f.denominator) (four s t g.numerator h.numerator ∙ (λ i. (*ℤ_comm s g.numerator ∙ rg.same ∙ *ℤ_comm v g.denominator) i *ℤ (*ℤ_comm t h.numerator ∙ rh.same ∙ *ℤ_comm w h.denominator) i) ∙ four g.denominator v h.denominator w)
    ∙ mul_assoc_z (g.denominator *ℤ h.denominator) (v *ℤ w) f.denominator in
    let e2 : (s *ℤ t) *ℤ (f.numerator *ℤ (g.denominator *ℤ h.denominator)) ≡ (g.denominator *ℤ h.denominator) *ℤ (f.numerator *ℤ (s *ℤ t)) =
    *ℤ_comm (s *ℤ t) (f.numerator *ℤ (g.denominator *ℤ h.denominator)) ∙ ap (λ z. z *ℤ (s *ℤ t)) (*ℤ_comm f.numerator (g.denominator *ℤ h.denominator)) ∙ mul_assoc_z (g.denominator *ℤ h.denominator) f.numerator (s *ℤ t) in
    record {
      positive = q.positive;
      same = same_factor (g.denominator *ℤ h.denominator) (f.numerator *ℤ (s *ℤ t)) ((v *ℤ w) *ℤ f.denominator) k (sym e2 ∙ ap (λ z. (s *ℤ t) *ℤ z) q.same ∙ e1);
    }

pub difference : (f g h : Ratio) (v w s : ℤ) → IsRatio g v s → IsRatio h w s → IsDifference f g h → IsRatio f (v -ℤ w) s
difference f g h v w s rg rh q =
    let k = product_above g.denominator h.denominator rg.positive rh.positive in
    let e1 : s *ℤ (g.numerator *ℤ h.denominator -ℤ h.numerator *ℤ g.denominator) ≡ (g.denominator *ℤ h.denominator) *ℤ (v -ℤ w) =
    times_less s (g.numerator *ℤ h.denominator) (h.numerator *ℤ g.denominator)
    ∙ (λ i. (sym (mul_assoc_z s g.numerator h.denominator) ∙ ap (λ z. z *ℤ h.denominator) (*ℤ_comm s g.numerator ∙ rg.same ∙ *ℤ_comm v g.denominator) ∙ mul_assoc_z g.denominator v h.denominator ∙ ap (λ z. g.denominator *ℤ z) (*ℤ_comm v h.denominator) ∙ sym (mul_assoc_z g.denominator h.denominator v)) i -ℤ (sym (mul_assoc_z s h.numerator g.denominator) ∙ ap (λ z. z *ℤ g.denominator) (*ℤ_comm s h.numerator ∙ rh.same ∙ *ℤ_comm w h.denominator) ∙ *ℤ_comm (h.denominator *ℤ w) g.denominator ∙ sym (mul_assoc_z g.denominator h.denominator w)) i)
    ∙ sym (times_less (g.denominator *ℤ h.denominator) v w) in
    let e2 : s *ℤ (f.numerator *ℤ (g.denominator *ℤ h.denominator)) ≡ (g.denominator *ℤ h.denominator) *ℤ (f.numerator *ℤ s) =
    *ℤ_comm s (f.numerator *ℤ (g.denominator *ℤ h.denominator)) ∙ ap (λ z. z *ℤ s) (*ℤ_comm f.numerator (g.denominator *ℤ h.denominator)) ∙ mul_assoc_z (g.denominator *ℤ h.denominator) f.numerator s in
    let e3 : s *ℤ ((g.numerator *ℤ h.denominator -ℤ h.numerator *ℤ g.denominator) *ℤ f.denominator) ≡ (g.denominator *ℤ h.denominator) *ℤ ((v -ℤ w) *ℤ f.denominator) =
    sym (mul_assoc_z s (g.numerator *ℤ h.denominator -ℤ h.numerator *ℤ g.denominator) f.denominator) ∙ ap (λ z. z *ℤ f.denominator) e1 ∙ mul_assoc_z (g.denominator *ℤ h.denominator) (v -ℤ w) f.denominator in
    record {
      positive = q.positive;
      same = same_factor (g.denominator *ℤ h.denominator) (f.numerator *ℤ s) ((v -ℤ w) *ℤ f.denominator) k (sym e2 ∙ ap (λ z. s *ℤ z) q.same ∙ e3);
    }

-- ---- signs
pub num_above : (f : Ratio) (v s : ℤ) → pos 0 <ℤ s → IsRatio f v s → pos 0 <ℤ v → pos 0 <ℤ f.numerator
num_above f v s p h l = let a = product_above v f.denominator l h.positive in let e = h.same in let c = *ℤ_comm f.numerator s in is_above s f.numerator p (omega (arith, ints, a, e, c))

pub value_above : (f : Ratio) (v s : ℤ) → pos 0 <ℤ s → IsRatio f v s → pos 0 <ℤ f.numerator → pos 0 <ℤ v
value_above f v s p h l = let a = product_above f.numerator s l p in let e = h.same in let c = *ℤ_comm v f.denominator in is_above f.denominator v h.positive (omega (arith, ints, a, e, c))

pub ratio_neg : (f : Ratio) (v s : ℤ) → IsRatio f v s → IsRatio (record { numerator = pos 0 -ℤ f.numerator; denominator = f.denominator }) (pos 0 -ℤ v) s
ratio_neg f v s h = record {
  positive = h.positive;
  same = (
      let a = less_times (pos 0) f.numerator s in
      let b = less_times (pos 0) v f.denominator in
      let z = zero_times (pos 0) s refl in
      let z' = zero_times (pos 0) f.denominator refl in
      let e = h.same in
      omega (arith, ints, a, b, z, z', e));
}

pub value_below : (f : Ratio) (v s : ℤ) → pos 0 <ℤ s → IsRatio f v s → f.numerator <ℤ pos 0 → v <ℤ pos 0
value_below f v s p h l = let k = value_above (record { numerator = pos 0 -ℤ f.numerator; denominator = f.denominator }) (pos 0 -ℤ v) s p (ratio_neg f v s h) (omega (arith, ints)) in omega (arith, ints, k)

pub num_below : (f : Ratio) (v s : ℤ) → pos 0 <ℤ s → IsRatio f v s → v <ℤ pos 0 → f.numerator <ℤ pos 0
num_below f v s p h l = let k = num_above (record { numerator = pos 0 -ℤ f.numerator; denominator = f.denominator }) (pos 0 -ℤ v) s p (ratio_neg f v s h) (omega (arith, ints)) in omega (arith, ints, k)

pub value_not_under : (f : Ratio) (v s : ℤ) → pos 0 <ℤ s → IsRatio f v s → pos 0 ≤ℤ f.numerator → pos 0 ≤ℤ v
value_not_under f v s p h l = elim (by_sign v) [
  | inl k ↦ (let u = num_below f v s p h k in absurd (omega (arith, ints, u)))
  | inr w ↦ elim w [ inl e ↦ omega (arith, ints, e) | inr k ↦ omega (arith, ints) ]
]

pub num_zero : (f : Ratio) (v s : ℤ) → pos 0 <ℤ s → IsRatio f v s → v ≡ pos 0 → f.numerator ≡ pos 0
num_zero f v s p h e = is_zero s f.numerator p (*ℤ_comm s f.numerator ∙ h.same ∙ zero_times v f.denominator e)
