use Rattle.std.proofs.Common.{◌≡◌, ℕ, Bool, subst, suc, ◌+◌, ◌<◌, List, ◌∷◌, length, drop, get_or, arith, sym, ap, ◌∙◌, Some, ◌==◌, cond, drop-cons, true}
use Rattle.std.proofs.lemmas.Option.{slice_get_within, get_or_from_slice_get}
use Rattle.std.proofs.lemmas.List.Elements.{All-filter, All-contains_itself, filter_passes}
use Rattle.std.specs.Prelude.{slice_get, Contains}
use Rattle.std.specs.List.{filter}
use Rattle.std.proofs.lemmas.Bool.{eq-eqb, eqb-true}
use Rattle.tv_cert.specs.declared.node.Marked.{Marked}
use Rattle.tv_cert.specs.Pieces.{place_of, pieces_at}

module _ {A : Type 0} (place : A → ℕ) (items : List A) (l : ℕ) where
  -- what stands among the items at a place is there, and is one of the items
  pub item_got : (k : ℕ) (x : A) → slice_get (filter (λ y. place y == l) items) k ≡ Some x → (place x ≡ l) × Contains items x
  item_got k x e =
      let test : A → Bool = λ y. place y == l in
      let within = slice_get_within (filter test items) k x e in
      let is = get_or_from_slice_get (filter test items) k x x e in
      (eqb-true (place x) l (subst (λ y. test y ≡ true) is (filter_passes test items k x within)), subst (Contains items) is (All-filter test (Contains items) items (All-contains_itself items) k x within))

  module _ (i : ℕ) (x : A) (below : i < length items) (is : x ≡ get_or items i x) where
    there : drop i items ≡ x ∷ drop (i + 1) items
    there = drop-cons items i x below ∙ (let k : suc i ≡ i + 1 = omega arith in λ j. sym is j ∷ drop (k j) items)

    item_first : place x ≡ l → filter (λ y. place y == l) (drop i items) ≡ x ∷ filter (λ y. place y == l) (drop (i + 1) items)
    item_first e =
        ap (λ ys. filter (λ y. place y == l) ys) there
        ∙ ap (λ b. cond b (x ∷ filter (λ y. place y == l) (drop (i + 1) items)) (filter (λ y. place y == l) (drop (i + 1) items))) (eq-eqb (place x) l e)

    pub item_here : (left : ℕ) → place x ≡ l → left ≡ 0 → slice_get (filter (λ y. place y == l) (drop i items)) left ≡ Some x
    item_here left e z = (λ j. slice_get (item_first e j) (z j))

pub piece_got : (ps : List Marked) (l k : ℕ) (p : Marked) → slice_get (pieces_at ps l) k ≡ Some p → (place_of p ≡ l) × Contains ps p
piece_got ps l k p e = item_got place_of ps l k p e
