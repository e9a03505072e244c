-- Regions, location by location.
use Rattle.std.proofs.Common.{◌≡◌, ◌⊎◌, inl, inr, ℕ, zero, suc, ◌+◌, ◌-◌, ◌*◌, ◌^◌, ◌<◌, ◌≤◌, min, List, [], ◌∷◌, ◌++◌, take, length, get_or, refl, sym, ap, ◌∙◌, subst, arith, append_assoc, ℤ, Bool, true, false, cond}
use Rattle.std.specs.Prelude.{◌==◌}
use Rattle.std.proofs.lemmas.List.{append-nil}
use Rattle.std.proofs.lemmas.List.Elements.{All-nil, All-push}
use Rattle.std.proofs.lemmas.Bool.{eq-eqb, ne_eqb}
use borrow.Author.Count.{below_more}
use Rattle.tv_linear.specs.Linear.{Linear, columns}
use Rattle.tv_linear.specs.declared.region.Piece.{Piece}
use Rattle.tv_linear.proofs.ListLaws.{take_next}
use Rattle.tv_region.specs.Adding.{row_product}
use Rattle.tv_region.specs.Regions.{IsPieceOf, lists_at, capped, IsPlaced, IsAt, IsAssembledTo}
use Rattle.tv_region.proofs.MetLemmas.{all_has}
use Rattle.tv_region.proofs.AddLemmas.{some_front, some_last, row_product-push}

-- ---- numbers

min_small : (a m : ℕ) → a ≤ m → min a m ≡ a
min_small a m h = omega arith

min_large : (a m : ℕ) → m ≤ a → min a m ≡ m
min_large a m h = omega arith

pub either_side : (a m : ℕ) → (a ≤ m) ⊎ (m ≤ a)
either_side zero m = inl (omega arith)
either_side (suc a) zero = inr (omega arith)
either_side (suc a) (suc m) = elim (either_side a m) [ inl h ↦ inl (omega arith) | inr h ↦ inr (omega arith) ]

times_suc : (a b : ℕ) → a * suc b ≡ a * b + a
times_suc a b = grind arith

pub cap_times : (m a b : ℕ) → min (min a m * b) m ≡ min (a * b) m
cap_times m a zero = grind arith
cap_times m a (suc b) =
    elim (either_side a m) [
      | inl h ↦ ap (λ x. min (x * suc b) m) (min_small a m h)
      | inr h ↦ (
          let here = ap (λ x. min (x * suc b) m) (min_large a m h) in
          let p = times_suc m b in
          let q = times_suc a b in
          here ∙ min_large (m * suc b) m (omega (arith, p)) ∙ sym (min_large (a * suc b) m (omega (arith, q, h)))
          )
    ]

pub product_step : (ls : List (List Linear)) (rows : List Linear) → min (capped (row_product ls) * length rows) (2 ^ 64 - 1) ≡ capped (row_product (ls ++ rows ∷ []))
product_step ls rows = cap_times (2 ^ 64 - 1) (row_product ls) (length rows) ∙ ap (λ x. min x (2 ^ 64 - 1)) (sym (row_product-push ls rows))

-- ---- lists of a location
pub lists_at-push : (k : ℕ) (pieces : List Piece) (p : Piece) → lists_at k (pieces ++ p ∷ []) ≡ lists_at k pieces ++ cond (p.location == k) (p.poly.rows.items ∷ []) []
lists_at-push k [] p = refl
lists_at-push k (q ∷ pieces) p = ap (λ ls. cond (q.location == k) (q.poly.rows.items ∷ ls) ls) (lists_at-push k pieces p) ∙ by_test (q.location == k) where
  by_test : (t : Bool) → cond t (q.poly.rows.items ∷ (lists_at k pieces ++ cond (p.location == k) (p.poly.rows.items ∷ []) [])) (lists_at k pieces ++ cond (p.location == k) (p.poly.rows.items ∷ []) []) ≡ cond t (q.poly.rows.items ∷ lists_at k pieces) (lists_at k pieces) ++ cond (p.location == k) (p.poly.rows.items ∷ []) []
  by_test true = refl
  by_test false = refl

pub lists_at-next : (k : ℕ) (pieces : List Piece) (i : ℕ) (p : Piece) → i < length pieces → p ≡ get_or pieces i p → lists_at k (take (i + 1) pieces) ≡ lists_at k (take i pieces) ++ cond (p.location == k) (p.poly.rows.items ∷ []) []
lists_at-next k pieces i p l e = ap (lists_at k) (take_next pieces i p l e) ∙ lists_at-push k (take i pieces) p

pub lists_at-here : (k : ℕ) (pieces : List Piece) (i : ℕ) (p : Piece) → i < length pieces → p ≡ get_or pieces i p → p.location ≡ k → lists_at k (take (i + 1) pieces) ≡ lists_at k (take i pieces) ++ p.poly.rows.items ∷ []
lists_at-here k pieces i p l e h = lists_at-next k pieces i p l e ∙ ap (λ t. lists_at k (take i pieces) ++ cond t (p.poly.rows.items ∷ []) []) (eq-eqb p.location k h)

pub lists_at-there : (k : ℕ) (pieces : List Piece) (i : ℕ) (p : Piece) → i < length pieces → p ≡ get_or pieces i p → (p.location ≡ k → ⊥) → lists_at k (take (i + 1) pieces) ≡ lists_at k (take i pieces)
lists_at-there k pieces i p l e h = lists_at-next k pieces i p l e ∙ ap (λ t. lists_at k (take i pieces) ++ cond t (p.poly.rows.items ∷ []) []) (ne_eqb p.location k h) ∙ append-nil (lists_at k (take i pieces))

-- ---- pieces that are placed
no_lists : (t : Bool) → cond {A = List (List Linear)} t [] [] ≡ []
no_lists true = refl
no_lists false = refl

pub placed_none : (l n : ℕ) (old : List Piece) → IsPlaced l n old [] old
placed_none l n old = record { at = λ k. sym (append-nil (lists_at k old)) ∙ ap (λ ms. lists_at k old ++ ms) (sym (no_lists (l == k))); each = λ m b w h. h }

pub placed_more : (l n : ℕ) (old kept new : List Piece) (more : List (List Linear)) (p : Piece) → new ≡ kept ++ p ∷ [] → p.location ≡ l → p.poly.columns ≡ n → IsPlaced l n old more kept → IsPlaced l n old (more ++ p.poly.rows.items ∷ []) new
placed_more l n old kept new more p e here wide h = subst (λ v. IsPlaced l n old (more ++ p.poly.rows.items ∷ []) v) (sym e) record {
  at = λ k.
      lists_at-push k kept p
      ∙ (λ i. h.at k i ++ cond (here i == k) (p.poly.rows.items ∷ []) [])
      ∙ append_assoc (lists_at k old) (cond (l == k) more []) (cond (l == k) (p.poly.rows.items ∷ []) [])
      ∙ ap (λ ms. lists_at k old ++ ms) (both (l == k));
  each = λ m b w k. All-push (IsPieceOf n m) kept p (h.each m b (λ r j. w r (some_front more p.poly.rows.items r j)) k) record {
    place = subst (λ x. x < m) (sym here) b;
    width = wide;
    even = all_has (λ r. columns r ≡ n) p.poly.rows.items (λ r j. w r (some_last more p.poly.rows.items r j));
  };
}
  where
    both : (t : Bool) → cond t more [] ++ cond t (p.poly.rows.items ∷ []) [] ≡ cond t (more ++ p.poly.rows.items ∷ []) []
    both true = refl
    both false = refl

-- ---- location by location
module _ (n m : ℕ) (Only Out : ℕ → List ℤ → Type 0) (Made : ℕ → Linear → Type 0) (Few : ℕ → ℕ → Type 0) where
  pub assembled_none : IsAssembledTo 0 n m Only Out Made Few []
  assembled_none = record { fits = All-nil (IsPieceOf n m); at = λ l h. absurd (omega arith); none = λ l h. refl }

  pub assembled_more : (k : ℕ) (pieces new : List Piece) (lists : List (List Linear)) → k < m → IsAssembledTo k n m Only Out Made Few pieces → IsAt n (Only k) (Out k) (Made k) (Few k) lists → IsPlaced k n pieces lists new → IsAssembledTo (k + 1) n m Only Out Made Few new
  assembled_more k pieces new lists b h a p = record {
    fits = p.each m b a.wide h.fits;
    at = below_more (λ l. IsAt n (Only l) (Out l) (Made l) (Few l) (lists_at l new)) k
        (λ l c. subst (IsAt n (Only l) (Out l) (Made l) (Few l)) (sym (other l (λ e. let x : ⊥ = omega arith in x))) (h.at l c))
        (subst (IsAt n (Only k) (Out k) (Made k) (Few k)) (sym here) a);
    none = λ l c. other l (λ e. let x : ⊥ = omega arith in x) ∙ h.none l (omega arith);
  }
    where
      other : (l : ℕ) → (k ≡ l → ⊥) → lists_at l new ≡ lists_at l pieces
      other l c = p.at l ∙ ap (λ t. lists_at l pieces ++ cond t lists []) (ne_eqb k l c) ∙ append-nil (lists_at l pieces)

      here : lists_at k new ≡ lists
      here = p.at k ∙ (λ i. h.none k (omega arith) i ++ cond (eq-eqb k k refl i) lists [])
