-- What is so of a choice is so of one that is the same.
use Rattle.std.proofs.Common.{◌≡◌, ℕ, ◌+◌, List, [], ◌∷◌, ◌++◌, length, Option, ℤ, refl, sym, ap, ◌∙◌, subst}
use Rattle.std.specs.Prelude.{max, Bool, All, slice_get}
use Rattle.std.specs.Global.{Vec}
use Rattle.std.specs.List.{AllZip}
use Rattle.tv_linear.specs.Linear.{Linear}
use Rattle.tv_linear.specs.Known.{Known, given, denied, as_given}
use Rattle.tv_linear.specs.Refutation.{Refutes}
use Rattle.tv_linear.specs.Covers.{no_target, IsMetCover}
use Rattle.tv_linear.specs.ChoiceDepth.{most_splits, choice_splits}
use Rattle.tv_linear.specs.declared.cover.CoverTree.{CoverTree}
use Rattle.tv_linear.specs.declared.choice.ChoiceTree.{ChoiceTree, Split', Empty, NoStep, Take}
use Rattle.tv_cases.specs.LinearCases.{LinearCase, leaving}
use Rattle.tv_cert.specs.Choices.{TakeMet, IsMetChoice}
use Rattle.tv_cert.specs.Shapes.{owed_count, CoverShape, TakeShape, ChoiceShape}
use Rattle.tv_shape.specs.Narrow.{AreNarrow, RowNarrow, CoverNarrow, ChoiceNarrow}
use Rattle.tv_copy.specs.SameProofs.{numbers_of, SameCover, SameChoice}
use Rattle.tv_copy.proofs.Carrying.{all_carried, zip_carried, lists_carried}
use Rattle.tv_copy.proofs.CoverLaws.{cover_met, cover_shaped, cover_splits, cover_narrow}

-- an induction over two choices that are the same
same_choices : (P : ChoiceTree → ChoiceTree → Type 0) →
    ((r : Linear) (p q t u : _) (a b x y : ChoiceTree) → P a x → P b y → P (Split' r p a q b) (Split' r t x u y)) →
    ((ms ns : Vec ℤ) → ns.items ≡ ms.items → P (Empty ms) (Empty ns)) →
    ((covers others : Vec CoverTree) → AllZip SameCover covers.items others.items → P (NoStep covers) (NoStep others)) →
    ((c k j : ℕ) (draws terms : Vec Linear) (lists others : Vec (Vec ℤ)) → terms.items ≡ draws.items → numbers_of others.items ≡ numbers_of lists.items → P (Take c k j draws lists) (Take c k j terms others)) →
    (a b : ChoiceTree) → SameChoice a b → P a b
same_choices P parted ends stops takes (Split' r p a q b) (Split' s t x u y) h =
    subst (λ w. P (Split' r p a q b) (Split' w t x u y)) (sym h.0) (parted r p q t u a b x y (same_choices P parted ends stops takes a x h.1) (same_choices P parted ends stops takes b y h.2))
same_choices P parted ends stops takes (Split' r p a q b) (Empty ns) h = absurd h
same_choices P parted ends stops takes (Split' r p a q b) (NoStep others) h = absurd h
same_choices P parted ends stops takes (Split' r p a q b) (Take d m i terms others) h = absurd h
same_choices P parted ends stops takes (Empty ms) (Split' s t x u y) h = absurd h
same_choices P parted ends stops takes (Empty ms) (Empty ns) h = ends ms ns h
same_choices P parted ends stops takes (Empty ms) (NoStep others) h = absurd h
same_choices P parted ends stops takes (Empty ms) (Take d m i terms others) h = absurd h
same_choices P parted ends stops takes (NoStep covers) (Split' s t x u y) h = absurd h
same_choices P parted ends stops takes (NoStep covers) (Empty ns) h = absurd h
same_choices P parted ends stops takes (NoStep covers) (NoStep others) h = stops covers others h
same_choices P parted ends stops takes (NoStep covers) (Take d m i terms others) h = absurd h
same_choices P parted ends stops takes (Take c k j draws lists) (Split' s t x u y) h = absurd h
same_choices P parted ends stops takes (Take c k j draws lists) (Empty ns) h = absurd h
same_choices P parted ends stops takes (Take c k j draws lists) (NoStep others) h = absurd h
same_choices P parted ends stops takes (Take c k j draws lists) (Take d m i terms others) h =
    subst (λ n. P (Take c k j draws lists) (Take n m i terms others)) (sym h.0)
    (subst (λ n. P (Take c k j draws lists) (Take c n i terms others)) (sym h.1)
    (subst (λ n. P (Take c k j draws lists) (Take c k n terms others)) (sym h.2) (takes c k j draws terms lists others h.3 h.4)))

module _ (n : ℕ) (cases : List LinearCase) (l : ℕ) (stop : Bool) (owed : LinearCase → List Linear → ℕ → ℕ → Option (List Known)) where
  pub choice_met : (known : List Known) (a b : ChoiceTree) → SameChoice a b → IsMetChoice n cases l stop owed known a → IsMetChoice n cases l stop owed known b
  choice_met known a b same =
      same_choices (λ a b. (known : List Known) → IsMetChoice n cases l stop owed known a → IsMetChoice n cases l stop owed known b)
      (λ r p q t u a b x y one two known h. (one (known ++ given r ∷ []) h.0, two (known ++ denied (given r) ∷ []) h.1))
      (λ ms ns e known h. subst (Refutes n known) (sym e) h)
      (λ covers others e known h.
      (h.0, zip_carried (λ c cover. IsMetCover (n + c.draws) no_target (known ++ as_given c.guards) cover) SameCover (λ c a b. cover_met (n + c.draws) no_target (known ++ as_given c.guards) a b) (leaving l cases) covers.items others.items e h.1))
      (λ c k j draws terms lists others d e known h.
      subst (λ rows. TakeMet n l owed known (slice_get cases c) k j rows (numbers_of others.items)) (sym d)
      (subst (λ ms. TakeMet n l owed known (slice_get cases c) k j draws.items ms) (sym e) h))
      a b same known

  pub choice_shaped : (known : ℕ) (a b : ChoiceTree) → SameChoice a b → ChoiceShape n cases l stop owed known a → ChoiceShape n cases l stop owed known b
  choice_shaped known a b same =
      same_choices (λ a b. (known : ℕ) → ChoiceShape n cases l stop owed known a → ChoiceShape n cases l stop owed known b)
      (λ r p q t u a b x y one two known h. (h.0, one (known + 1) h.1, two (known + 1) h.2))
      (λ ms ns e known h. ap (λ xs. length xs) e ∙ h)
      (λ covers others e known h.
      (h.0, zip_carried (λ c tree. CoverShape (n + c.draws) (owed_count no_target) (known + length c.guards) tree) SameCover (λ c a b. cover_shaped (n + c.draws) (owed_count no_target) (known + length c.guards) a b) (leaving l cases) covers.items others.items e h.1))
      (λ c k j draws terms lists others d e known h.
      subst (λ rows. TakeShape n l owed known (slice_get cases c) k j rows (numbers_of others.items)) (sym d)
      (subst (λ ms. TakeShape n l owed known (slice_get cases c) k j draws.items ms) (sym e) h))
      a b same known

most_same : (covers others : List CoverTree) → AllZip SameCover covers others → most_splits others ≡ most_splits covers
most_same [] [] h = refl
most_same [] (b ∷ others) h = absurd h
most_same (a ∷ covers) [] h = absurd h
most_same (a ∷ covers) (b ∷ others) h = (λ i. max (cover_splits a b h.0 i) (most_same covers others h.1 i))

pub choice_splits_same : (a b : ChoiceTree) → SameChoice a b → choice_splits b ≡ choice_splits a
choice_splits_same = same_choices (λ a b. choice_splits b ≡ choice_splits a)
    (λ r p q t u a b x y one two i. 1 + max (one i) (two i)) (λ ms ns e. refl)
    (λ covers others e. most_same covers.items others.items e)
    (λ c k j draws terms lists others d e. refl)

pub choice_narrow : (a b : ChoiceTree) → SameChoice a b → ChoiceNarrow a → ChoiceNarrow b
choice_narrow = same_choices (λ a b. ChoiceNarrow a → ChoiceNarrow b)
    (λ r p q t u a b x y one two h. (h.0, one h.1, two h.2))
    (λ ms ns e h. subst AreNarrow (sym e) h)
    (λ covers others e h. all_carried CoverNarrow SameCover cover_narrow covers.items others.items e h)
    (λ c k j draws terms lists others d e h. (h.0, h.1, h.2, subst (All RowNarrow) (sym d) h.3, lists_carried AreNarrow lists.items others.items e h.4))
