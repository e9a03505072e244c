-- A property of one state holds or does not, so its negation says exactly that it does not.
use Rattle.std.proofs.Common.{◌≡◌, ◌⊎◌, inl, inr, Bool, true, false, not, IsTrue, [], refl}
use Rattle.std.proofs.Common.{ℤ, int_eq, int_lt}
use Rattle.tv_program.specs.declared.tree.Relation.{Relation}
use Rattle.tv_program.specs.declared.tree.Relation.TheVariants.{Less, LessEqual, Greater, GreaterEqual, Equal, NotEqual}
use Rattle.tv_program.specs.Meaning.{value_of, compares}
use Rattle.tv_program.specs.Steps.{State}
use Rattle.tv_formula.specs.Properties.{Property, truth, compare, at, term, negated, all_of, some_of, next, fix, Properties, none, more}
use Rattle.tv_formula.specs.Forms.{is_local, are_local}
use Rattle.tv_formula.specs.Normal.{negation, normal, negations, normals, opposite}
use Rattle.tv_meaning.specs.Meaning.{Holds, AllHold, SomeHolds}
use Rattle.tv_meaning.specs.Laws.{NormalSays, NegationSays}
use Rattle.tv_meaning.proofs.Negation.{negation_excludes, normal_holds}
use Rattle.std.proofs.lemmas.Bool.{cases_eq, and_parts}

one_of_two : (b : Bool) → IsTrue b ⊎ IsTrue (not b)
one_of_two true = inl refl
one_of_two false = inr refl

the_other : (b : Bool) → IsTrue (not b) ⊎ IsTrue b
the_other true = inr refl
the_other false = inl refl

compared : (r : Relation) (a b : ℤ) → IsTrue (compares r a b) ⊎ IsTrue (compares (opposite r) a b)
compared Less a b = one_of_two (int_lt a b)
compared LessEqual a b = the_other (int_lt b a)
compared Greater a b = one_of_two (int_lt b a)
compared GreaterEqual a b = the_other (int_lt a b)
compared Equal a b = one_of_two (int_eq a b)
compared NotEqual a b = the_other (int_eq a b)

-- the property holds, with its normal form, or the negation does
module _ (step : State → State → Type 0) where
  mutual
    decided : (f : Property) → is_local f ≡ true → (s : State) → Holds step (normal f) s ⊎ Holds step (negation f) s
    decided (truth b) h s = one_of_two b
    decided (compare r a b) h s = compared r (value_of a s.values []) (value_of b s.values [])
    decided (at l) h s = cases_eq s.location l
    decided term h s = absurd cc
    decided (negated f) h s = elim (decided f h s) [ inl k ↦ inr k | inr k ↦ inl k ]
    decided (all_of fs) h s = all_decided fs h s
    decided (some_of fs) h s = some_decided fs h s
    decided (next p f) h s = absurd cc
    decided (fix p w f g) h s = absurd cc

    all_decided : (fs : Properties) → are_local fs ≡ true → (s : State) → AllHold step (normals fs) s ⊎ SomeHolds step (negations fs) s
    all_decided none h s = inl tt
    all_decided (more f fs) h s = elim (decided f ((and_parts _ _ h).0) s) [
      | inl k ↦ elim (all_decided fs ((and_parts (is_local f) _ h).1) s) [ inl j ↦ inl (k, j) | inr j ↦ inr (inr j) ]
      | inr k ↦ inr (inl k)
    ]

    some_decided : (fs : Properties) → are_local fs ≡ true → (s : State) → SomeHolds step (normals fs) s ⊎ AllHold step (negations fs) s
    some_decided none h s = inr tt
    some_decided (more f fs) h s = elim (decided f ((and_parts _ _ h).0) s) [
      | inl k ↦ inl (inl k)
      | inr k ↦ elim (some_decided fs ((and_parts (is_local f) _ h).1) s) [ inl j ↦ inl (inr j) | inr j ↦ inr (k, j) ]
    ]

  pub normal_says : (f : Property) → NormalSays step f
  normal_says f h s = (λ k. normal_holds step f s k, λ k. elim (decided f h s) [ inl j ↦ j | inr j ↦ absurd (negation_excludes step f s j k) ])

  pub negation_says : (f : Property) → NegationSays step f
  negation_says f h s = (λ k j. negation_excludes step f s k j, λ no. elim (decided f h s) [ inl j ↦ absurd (no (normal_holds step f s j)) | inr j ↦ j ])
