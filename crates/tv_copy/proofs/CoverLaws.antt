-- What is so of a cover is so of one that is the same.
use Rattle.std.proofs.Common.{◌≡◌, ℕ, ◌+◌, List, [], ◌∷◌, ◌++◌, length, Option, ℤ, refl, sym, ap, ◌∙◌, subst}
use Rattle.std.specs.Prelude.{max}
use Rattle.std.specs.Global.{Vec}
use Rattle.tv_linear.specs.Linear.{Linear}
use Rattle.tv_linear.specs.Known.{Known, given, denied}
use Rattle.tv_linear.specs.Refutation.{Refutes}
use Rattle.tv_linear.specs.Covers.{ShownAt, IsMetCover}
use Rattle.tv_linear.specs.Depth.{splits}
use Rattle.tv_linear.specs.declared.cover.CoverTree.{CoverTree, Split', Empty, Into}
use Rattle.tv_cert.specs.Shapes.{ListsShape, CoverShape}
use Rattle.tv_shape.specs.Narrow.{AreNarrow, CoverNarrow}
use Rattle.tv_copy.specs.SameProofs.{numbers_of, SameCover}
use Rattle.tv_copy.proofs.Carrying.{lists_carried}

-- an induction over two covers that are the same
same_covers : (P : CoverTree → CoverTree → Type 0) →
    ((r : Linear) (p q t u : _) (a b x y : CoverTree) → P a x → P b y → P (Split' r p a q b) (Split' r t x u y)) →
    ((ms ns : Vec ℤ) → ns.items ≡ ms.items → P (Empty ms) (Empty ns)) →
    ((k j : ℕ) (lists others : Vec (Vec ℤ)) → numbers_of others.items ≡ numbers_of lists.items → P (Into k j lists) (Into k j others)) →
    (a b : CoverTree) → SameCover a b → P a b
same_covers P parted ends enters (Split' r p a q b) (Split' s t x u y) h =
    subst (λ w. P (Split' r p a q b) (Split' w t x u y)) (sym h.0) (parted r p q t u a b x y (same_covers P parted ends enters a x h.1) (same_covers P parted ends enters b y h.2))
same_covers P parted ends enters (Split' r p a q b) (Empty ns) h = absurd h
same_covers P parted ends enters (Split' r p a q b) (Into m i others) h = absurd h
same_covers P parted ends enters (Empty ms) (Split' s t x u y) h = absurd h
same_covers P parted ends enters (Empty ms) (Empty ns) h = ends ms ns h
same_covers P parted ends enters (Empty ms) (Into m i others) h = absurd h
same_covers P parted ends enters (Into k j lists) (Split' s t x u y) h = absurd h
same_covers P parted ends enters (Into k j lists) (Empty ns) h = absurd h
same_covers P parted ends enters (Into k j lists) (Into m i others) h =
    subst (λ n. P (Into k j lists) (Into n i others)) (sym h.0) (subst (λ n. P (Into k j lists) (Into k n others)) (sym h.1) (enters k j lists others h.2))

pub cover_met : (n : ℕ) (owed : ℕ → ℕ → Option (List Known)) (known : List Known) (a b : CoverTree) → SameCover a b → IsMetCover n owed known a → IsMetCover n owed known b
cover_met n owed known a b same =
    same_covers (λ a b. (known : List Known) → IsMetCover n owed known a → IsMetCover n owed known b)
    (λ r p q t u a b x y one two known h. (one (known ++ given r ∷ []) h.0, two (known ++ denied (given r) ∷ []) h.1))
    (λ ms ns e known h. subst (Refutes n known) (sym e) h)
    (λ k j lists others e known h. subst (ShownAt n known (owed k j)) (sym e) h)
    a b same known

pub cover_shaped : (n : ℕ) (counts : ℕ → ℕ → Option ℕ) (known : ℕ) (a b : CoverTree) → SameCover a b → CoverShape n counts known a → CoverShape n counts known b
cover_shaped n counts known a b same =
    same_covers (λ a b. (known : ℕ) → CoverShape n counts known a → CoverShape n counts known b)
    (λ r p q t u a b x y one two known h. (h.0, one (known + 1) h.1, two (known + 1) h.2))
    (λ ms ns e known h. ap (λ xs. length xs) e ∙ h)
    (λ k j lists others e known h. subst (ListsShape (known + 1) (counts k j)) (sym e) h)
    a b same known

pub cover_splits : (a b : CoverTree) → SameCover a b → splits b ≡ splits a
cover_splits = same_covers (λ a b. splits b ≡ splits a) (λ r p q t u a b x y one two i. 1 + max (one i) (two i)) (λ ms ns e. refl) (λ k j lists others e. refl)

pub cover_narrow : (a b : CoverTree) → SameCover a b → CoverNarrow a → CoverNarrow b
cover_narrow = same_covers (λ a b. CoverNarrow a → CoverNarrow b)
    (λ r p q t u a b x y one two h. (h.0, one h.1, two h.2))
    (λ ms ns e h. subst AreNarrow (sym e) h)
    (λ k j lists others e h. (h.0, h.1, lists_carried AreNarrow lists.items others.items e h.2))
