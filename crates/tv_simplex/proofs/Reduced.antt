use Rattle.std.proofs.Common.{◌≡◌, arith, sym, ap, ◌∙◌, ℤ, pos, ◌*ℤ◌, ◌<ℤ◌}
use Rattle.std.proofs.lemmas.Int.{ints}
use Rattle.std.proofs.Math.IntN.{*ℤ_comm}
use Rattle.tv_linear.proofs.Ring.{mul_assoc_z}
use Rattle.tv_fraction.proofs.Lowest.{lowest}
use Rattle.tv_fraction.specs.declared.Fraction.{Fraction}
use Rattle.tv_simplex.proofs.Ring.{mul_swap, same_factor}
use Rattle.tv_simplex.specs.Outcomes.{IsNarrow, HasNarrow}

-- a fraction of the one value is a fraction of each equal one
same_value : (x d v s w t : ℤ) → pos 0 <ℤ s → x *ℤ s ≡ v *ℤ d → t *ℤ v ≡ s *ℤ w → x *ℤ t ≡ w *ℤ d
same_value x d v s w t p h e = same_factor s (x *ℤ t) (w *ℤ d) p (
    mul_swap s x t ∙ ap (λ z. x *ℤ z) (*ℤ_comm s t) ∙ mul_swap x t s ∙ ap (λ z. t *ℤ z) h ∙ sym (mul_assoc_z t v d) ∙ ap (λ z. z *ℤ d) e ∙ mul_assoc_z s w d
    )

pub narrow_any : (v s w t : ℤ) → pos 0 <ℤ s → t *ℤ v ≡ s *ℤ w → HasNarrow v s → HasNarrow w t
narrow_any v s w t p e h = record {
  numerator = h.numerator;
  denominator = h.denominator;
  numerator_narrow = h.numerator_narrow;
  denominator_narrow = h.denominator_narrow;
  positive = h.positive;
  same = same_value h.numerator h.denominator v s w t p h.same e;
}

-- two fractions of one value
pub crosswise : (x d y e v s : ℤ) → pos 0 <ℤ s → x *ℤ s ≡ v *ℤ d → y *ℤ s ≡ v *ℤ e → x *ℤ e ≡ y *ℤ d
crosswise x d y e v s p h k = same_factor s (x *ℤ e) (y *ℤ d) p (
    sym (mul_assoc_z s x e) ∙ ap (λ z. z *ℤ e) (*ℤ_comm s x ∙ h) ∙ mul_assoc_z v d e ∙ ap (λ z. v *ℤ z) (*ℤ_comm d e) ∙ sym (mul_assoc_z v e d)
    ∙ ap (λ z. z *ℤ d) (sym k ∙ *ℤ_comm y s) ∙ mul_assoc_z s y d)

not_zero : (d : ℤ) → pos 0 <ℤ d → d ≡ pos 0 → ⊥
not_zero d p e = omega (arith, ints, p, e)

-- so where some fraction of a value is narrow, the one in lowest terms is
pub lowest_narrow : (f : Fraction) (v s : ℤ) → pos 0 <ℤ s → f.numerator *ℤ s ≡ v *ℤ f.denominator → HasNarrow v s → IsNarrow f.numerator × IsNarrow f.denominator
lowest_narrow f v s p h n =
    let l = lowest f n.numerator n.denominator (crosswise f.numerator f.denominator n.numerator n.denominator v s p h n.same) (not_zero n.denominator n.positive) in
    let a = n.numerator_narrow in
    let b = n.denominator_narrow in
    (omega (arith, l.0, a), omega (arith, l.1, b))
