-- a ranked until is decided
use Rattle.std.proofs.Common.{◌≡◌, inl, inr, ℕ, true, refl, sym, ap, subst, ◌∙◌}
use Rattle.std.specs.Prelude.{◌&&◌}
use Rattle.std.proofs.lemmas.Bool.{and_parts}
use Rattle.tv_program.specs.Steps.{State}
use Rattle.tv_formula.specs.declared.tree.Path.TheVariants.{Every}
use Rattle.tv_formula.specs.declared.tree.Shape.{Shape}
use Rattle.tv_formula.specs.declared.tree.Shape.TheVariants.{Until, Weak, Release, Strong}
use Rattle.tv_formula.specs.Properties.{Property, truth, compare, at, term, negated, all_of, some_of, next, fix, Properties, none, more}
use Rattle.tv_formula.specs.Forms.{is_normal, are_normal, is_local, are_local}
use Rattle.tv_formula.proofs.NormalLemmas.{normal_normal}
use Rattle.tv_cases.specs.LinearCases.{CaseSystem, CaseSteps}
use Rattle.tv_meaning.specs.Meaning.{Holds, AllHold, SomeHolds}
use Rattle.tv_known.specs.Rounds.{HoldSide, EndSides}
use Rattle.tv_known.specs.Known.{Known, AllKnown, SomeKnown, IsRanked, IsDecided}
use Rattle.tv_known.specs.Laws.{MustReach, IsRankedUntil}

module _ (about : CaseSystem) (last : ℕ) where
  mutual
    -- of one state the rounds tell all
    pub local_known : (f : Property) → is_normal f ≡ true → is_local f ≡ true → (s : State) → Holds (CaseSteps about) f s → Known about last f s
    local_known (truth b) n l s h = h
    local_known (compare r a b) n l s h = h
    local_known (at k) n l s h = h
    local_known term n l s h = absurd cc
    local_known (negated (at k)) n l s h = h
    local_known (negated term) n l s h = absurd cc
    local_known (negated (truth b)) n l s h = absurd cc
    local_known (negated (compare r a b)) n l s h = absurd cc
    local_known (negated (negated f)) n l s h = absurd cc
    local_known (negated (all_of fs)) n l s h = absurd cc
    local_known (negated (some_of fs)) n l s h = absurd cc
    local_known (negated (next p f)) n l s h = absurd cc
    local_known (negated (fix p w f g)) n l s h = absurd cc
    local_known (all_of fs) n l s h = all_known fs n l s h
    local_known (some_of fs) n l s h = some_known fs n l s h
    local_known (next p f) n l s h = absurd cc
    local_known (fix p w f g) n l s h = absurd cc

    all_known : (fs : Properties) → are_normal fs ≡ true → are_local fs ≡ true → (s : State) → AllHold (CaseSteps about) fs s → AllKnown about last fs s
    all_known none n l s h = tt
    all_known (more f fs) n l s h = (
      local_known f ((and_parts (is_normal f) (are_normal fs) n).0) ((and_parts (is_local f) (are_local fs) l).0) s h.0,
      all_known fs ((and_parts (is_normal f) (are_normal fs) n).1) ((and_parts (is_local f) (are_local fs) l).1) s h.1,
    )

    some_known : (fs : Properties) → are_normal fs ≡ true → are_local fs ≡ true → (s : State) → SomeHolds (CaseSteps about) fs s → SomeKnown about last fs s
    some_known none n l s h = h
    some_known (more f fs) n l s h = elim h [
      | inl k ↦ inl (local_known f ((and_parts (is_normal f) (are_normal fs) n).0) ((and_parts (is_local f) (are_local fs) l).0) s k)
      | inr k ↦ inr (some_known fs ((and_parts (is_normal f) (are_normal fs) n).1) ((and_parts (is_local f) (are_local fs) l).1) s k)
    ]

-- sides that tell more
end_more : (shape : Shape) (f g p q : State → Type 0) → ((s : State) → f s → p s) → ((s : State) → g s → q s) → (s : State) → EndSides shape f g s → EndSides shape p q s
end_more Until f g p q a b s h = b s h
end_more Weak f g p q a b s h = b s h
end_more Release f g p q a b s h = (a s h.0, b s h.1)
end_more Strong f g p q a b s h = (a s h.0, b s h.1)

hold_more : (shape : Shape) (f g p q : State → Type 0) → ((s : State) → f s → p s) → ((s : State) → g s → q s) → (s : State) → HoldSide shape f g s → HoldSide shape p q s
hold_more Until f g p q a b s h = a s h
hold_more Weak f g p q a b s h = a s h
hold_more Release f g p q a b s h = b s h
hold_more Strong f g p q a b s h = b s h

module _ (about : CaseSystem) (f : Property) (is : IsRankedUntil about f) where
  sides_normal : (is_normal is.left && is_normal is.right) ≡ true
  sides_normal = ap is_normal (sym is.same) ∙ normal_normal f

  left_known : (last : ℕ) (s : State) → Holds (CaseSteps about) is.left s → Known about last is.left s
  left_known last s h = local_known about last is.left ((and_parts (is_normal is.left) (is_normal is.right) sides_normal).0) is.left_local s h

  right_known : (last : ℕ) (s : State) → Holds (CaseSteps about) is.right s → Known about last is.right s
  right_known last s h = local_known about last is.right ((and_parts (is_normal is.left) (is_normal is.right) sides_normal).1) is.right_local s h

  ranked : (last : ℕ) → IsRanked about is.shape (λ t. Known about last is.left t) (λ t. Known about last is.right t)
  ranked last = record {
    ranking = is.ranking;
    goes = λ s valid. elim (is.goes s valid) [
      | inl e ↦ inl (end_more is.shape (λ t. Holds (CaseSteps about) is.left t) (λ t. Holds (CaseSteps about) is.right t) (λ t. Known about last is.left t) (λ t. Known about last is.right t) (left_known last) (right_known last) s e)
      | inr h ↦ inr (hold_more is.shape (λ t. Holds (CaseSteps about) is.left t) (λ t. Holds (CaseSteps about) is.right t) (λ t. Known about last is.left t) (λ t. Known about last is.right t) (left_known last) (right_known last) s h.0, h.1)
    ];
  }

  all_states : (last : ℕ) (shape : Shape) → MustReach shape → shape ≡ is.shape → (s : State) → Known about last (fix Every shape is.left is.right) s
  all_states last Until must e s = inr (subst (λ w. IsRanked about w (λ t. Known about last is.left t) (λ t. Known about last is.right t)) (sym e) (ranked last))
  all_states last Strong must e s = inr (subst (λ w. IsRanked about w (λ t. Known about last is.left t) (λ t. Known about last is.right t)) (sym e) (ranked last))
  all_states last Weak must e s = absurd must
  all_states last Release must e s = absurd must

  pub ranked_decided : IsDecided about f
  ranked_decided = inl (λ s initial last is_last. subst (λ g. Known about last g s) (sym is.same) (all_states last is.shape is.must refl s))
