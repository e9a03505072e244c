use Rattle.std.proofs.Common.{◌≡◌, ℕ, ◌+◌, inl, inr, refl, sym, ◌∙◌, subst, ℤ, pos, ◌*ℤ◌, ◌<ℤ◌, ◌≤ℤ◌}
use Rattle.tv_simplex.proofs.Ring.{is_zero, times_zero}
use Rattle.tv_simplex.proofs.AnswersMet.{at_least, times_at_least}
use Rattle.tv_simplex.proofs.Unique.{same_tableau}
use Rattle.tv_simplex.proofs.Steps.{same_objective}
use Rattle.tv_simplex.specs.Tableaus.{Tableau}
use Rattle.tv_simplex.specs.Chains.{objective, Settles}

-- numbers equal up to factors above 0
same_sign : (p q v w : ℤ) → pos 0 <ℤ p → pos 0 <ℤ q → q *ℤ v ≡ p *ℤ w → pos 0 ≤ℤ v → pos 0 ≤ℤ w
same_sign p q v w hp hq e h = at_least p w hp (subst (λ z. pos 0 ≤ℤ z) e (times_at_least q v hq h))

same_zero : (p q v w : ℤ) → pos 0 <ℤ p → q *ℤ v ≡ p *ℤ w → v ≡ pos 0 → w ≡ pos 0
same_zero p q v w hp e h = is_zero p w hp (sym e ∙ times_zero q v h)

-- what settles in one tableau of a basis settles in each
pub settles_any : (a : ℕ → ℕ → ℤ) (m n : ℕ) (b : ℕ → ℕ) (x y : Tableau a m n b) → Settles a m n b x → Settles a m n b y
settles_any a m n b x y (inl h) = inl record {
  values = λ i l. same_sign x.scale y.scale (x.entry i (n + m)) (y.entry i (n + m)) x.positive y.positive (same_tableau a m n b x y i (n + m) l) (h.values i l);
  artificial = λ i l g. same_zero x.scale y.scale (x.entry i (n + m)) (y.entry i (n + m)) x.positive (same_tableau a m n b x y i (n + m) l) (h.artificial i l g);
}
settles_any a m n b x y (inr h) = inr (λ j l. same_sign x.scale y.scale (objective a m n b x j) (objective a m n b y j) x.positive y.positive (same_objective a m n b b x y (λ k g. (k, g, refl)) j) (h j l))
