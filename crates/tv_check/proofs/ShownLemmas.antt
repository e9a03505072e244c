-- Rows that are shown one by one.
use Rattle.std.proofs.Common.{◌≡◌, ◌↔◌, ℕ, zero, suc, ◌<◌, ◌≤◌, Bool, IsTrue, List, [], ◌∷◌, ◌++◌, length, drop, slice_get, ℤ, Some, Vec, Global, refl, sym, subst, arith}
use Rattle.tv_linear.specs.Known.{Known, denied}
use Rattle.tv_linear.specs.Covers.{Shown}
use Rattle.tv_linear.specs.Refutation.{Refutes}
use Rattle.tv_linear.proofs.ListLaws.{drop_past}
use Rattle.tv_refute.proofs.ShownLemmas.{numbers}
use Rattle.tv_cert.specs.Entering.{ShowsRow}

module _ (n : ℕ) (known : List Known) where
  -- the row and the list at a place, and what is after them
  shown_at : (rows : List Known) (lists : List (Vec ℤ Global)) (i : ℕ) (r : Known) (l : Vec ℤ Global) → slice_get rows i ≡ Some r → slice_get lists i ≡ Some l → Shown n known (drop i rows) (numbers (drop i lists)) ↔ (Refutes n (known ++ denied r ∷ []) l.items × Shown n known (drop (suc i) rows) (numbers (drop (suc i) lists)))
  shown_at [] lists i r l p q = absurd (let h : ⊥ = cc in h)
  shown_at (x ∷ rows) [] i r l p q = absurd (let h : ⊥ = cc in h)
  shown_at (x ∷ rows) (y ∷ lists) zero r l p q =
      let e : x ≡ r = cc in
      let f : y ≡ l = cc in
      (λ h. (subst (λ (t : Type 0). t) (λ i. Refutes n (known ++ denied (e i) ∷ []) (f i).items) h.0, h.1), λ h. (subst (λ (t : Type 0). t) (λ i. Refutes n (known ++ denied (sym e i) ∷ []) (sym f i).items) h.0, h.1))
  shown_at (x ∷ rows) (y ∷ lists) (suc i) r l p q = shown_at rows lists i r l p q

abbrev got : {A : Type 0} (xs : List A) (i : ℕ) → i < length xs → (x : A) × (slice_get xs i ≡ Some x)
got [] i h = absurd (omega (arith, h))
got (x ∷ xs) zero h = (x, refl)
got (x ∷ xs) (suc i) h = got xs i (omega (arith, h))

module _ (n : ℕ) (known rows : List Known) (lists : List (Vec ℤ Global)) where
  -- what is left to show from place i on
  pub record Left (i : ℕ) : Type 0 where
    pub same : Shown n known rows (numbers lists) ↔ Shown n known (drop i rows) (numbers (drop i lists))
    pub many : length rows ≡ length lists

  pub Left_none : (i : ℕ) → Left i → length lists ≤ i → Shown n known rows (numbers lists)
  Left_none i h k =
      let many = h.many in
      let a = drop_past rows i (omega arith) in
      let b = drop_past lists i k in
      h.same.1 (subst (λ (t : Type 0). t) (sym (λ j. Shown n known (a j) (numbers (b j)))) tt)

  module _ (i : ℕ) (h : Left i) (below : i < length rows) (l : Vec ℤ Global) (at : slice_get lists i ≡ Some l) (shown : Bool) (shows : ShowsRow n known rows i l.items shown) where
    abbrev here : (r : Known) × (slice_get rows i ≡ Some r)
    here = got rows i below

    both : Shown n known (drop i rows) (numbers (drop i lists)) ↔ (Refutes n (known ++ denied here.0 ∷ []) l.items × Shown n known (drop (suc i) rows) (numbers (drop (suc i) lists)))
    both = shown_at n known rows lists i here.0 l here.1 at

    pub Left_next : IsTrue shown → Left (suc i)
    Left_next t = record { same = (λ s. (both.0 (h.same.0 s)).1, λ s. h.same.1 (both.1 ((shows here.0 here.1).0 t, s))); many = h.many }

    pub Left_stops : Shown n known rows (numbers lists) → IsTrue shown
    Left_stops s = (shows here.0 here.1).1 (both.0 (h.same.0 s)).0
