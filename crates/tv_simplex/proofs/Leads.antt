use Rattle.std.proofs.Common.{◌≡◌, ℕ, inl, inr, ◌≤◌, arith, sym, ◌∙◌, subst, ℤ, pos, ◌+ℤ◌, ◌-ℤ◌, ◌*ℤ◌, ◌<ℤ◌, ◌≤ℤ◌}
use Rattle.std.proofs.lemmas.Int.{ints}
use Rattle.std.proofs.lemmas.Bool.{cases_order}
use Rattle.tv_simplex.proofs.Ring.{is_zero, is_above, times_zero, by_sign, zero_times, less_times}
use Rattle.tv_simplex.specs.Chains.{LeadsAbove}
use Rattle.tv_fraction.proofs.Products.{product_above}

pub leads-same : (m : ℕ) (v w : ℕ → ℤ) → LeadsAbove m v → ((q : ℕ) → q ≤ m → v q ≡ w q) → LeadsAbove m w
leads-same m v w h e = record {
  place = h.place;
  within = h.within;
  before = λ q l. sym (e q (let k = h.within in omega arith)) ∙ h.before q l;
  here = subst (λ z. pos 0 <ℤ z) (e h.place h.within) h.here;
}

pub leads-times : (m : ℕ) (a : ℤ) (v : ℕ → ℤ) → pos 0 <ℤ a → LeadsAbove m v → LeadsAbove m (λ q. a *ℤ v q)
leads-times m a v p h = record {
  place = h.place;
  within = h.within;
  before = λ q l. times_zero a (v q) (h.before q l);
  here = product_above a (v h.place) p h.here;
}

pub leads-divide : (m : ℕ) (a : ℤ) (v : ℕ → ℤ) → pos 0 <ℤ a → LeadsAbove m (λ q. a *ℤ v q) → LeadsAbove m v
leads-divide m a v p h = record {
  place = h.place;
  within = h.within;
  before = λ q l. is_zero a (v q) p (h.before q l);
  here = is_above a (v h.place) p h.here;
}

pub leads-add : (m : ℕ) (v w : ℕ → ℤ) → LeadsAbove m v → LeadsAbove m w → LeadsAbove m (λ q. v q +ℤ w q)
leads-add m v w h k = elim (cases_order h.place k.place) [
  | inl e ↦ record {
    place = h.place;
    within = h.within;
    before = λ q g. (let x = h.before q g in let y = k.before q (omega arith) in omega (arith, ints, x, y));
    here = (let x = h.here in let y = subst (λ z. pos 0 <ℤ w z) (sym e) k.here in omega (arith, ints, x, y));
  }
  | inr c ↦ elim c [
    | inl l ↦ record {
      place = h.place;
      within = h.within;
      before = λ q g. (let x = h.before q g in let y = k.before q (omega arith) in omega (arith, ints, x, y));
      here = (let x = h.here in let y = k.before h.place l in omega (arith, ints, x, y));
    }
    | inr l ↦ record {
      place = k.place;
      within = k.within;
      before = λ q g. (let x = h.before q (omega arith) in let y = k.before q g in omega (arith, ints, x, y));
      here = (let x = h.before k.place l in let y = k.here in omega (arith, ints, x, y));
    }
  ]
]

-- a > 0 times the one less g <= 0 times the other
pub leads-less : (m : ℕ) (a g : ℤ) (v w : ℕ → ℤ) → pos 0 <ℤ a → g ≤ℤ pos 0 → LeadsAbove m v → LeadsAbove m w → LeadsAbove m (λ q. a *ℤ v q -ℤ g *ℤ w q)
leads-less m a g v w p n h k = elim (by_sign g) [
  | inl u ↦ leads-same m (λ q. a *ℤ v q +ℤ (pos 0 -ℤ g) *ℤ w q) (λ q. a *ℤ v q -ℤ g *ℤ w q)
      (leads-add m (λ q. a *ℤ v q) (λ q. (pos 0 -ℤ g) *ℤ w q) (leads-times m a v p h) (leads-times m (pos 0 -ℤ g) w (omega (arith, ints)) k))
      (λ q l. let d = less_times (pos 0) g (w q) in omega (arith, ints, d))
  | inr c ↦ elim c [
    | inl e ↦ leads-same m (λ q. a *ℤ v q) (λ q. a *ℤ v q -ℤ g *ℤ w q) (leads-times m a v p h) (λ q l. let d = zero_times g (w q) e in omega (arith, ints, d))
    | inr u ↦ absurd (omega (arith, ints))
  ]
]

pub leads-never : (m : ℕ) (v : ℕ → ℤ) → LeadsAbove m v → ((q : ℕ) → q ≤ m → v q ≡ pos 0) → ⊥
leads-never m v h z = let e = z h.place h.within in let k = h.here in absurd (omega (arith, ints, e, k))
