-- Known states are among those where the property holds.
use Rattle.std.proofs.Common.{◌≡◌, ◌⊎◌, inl, inr, ℕ, true}
use Rattle.std.specs.Prelude.{All}
use Rattle.std.proofs.lemmas.Bool.{and_parts}
use Rattle.tv_formula.specs.declared.tree.Path.{Path}
use Rattle.tv_formula.specs.declared.tree.Path.TheVariants.{Every, Any}
use Rattle.tv_formula.specs.declared.tree.Shape.{Shape}
use Rattle.tv_formula.specs.declared.tree.Shape.TheVariants.{Until, Weak, Release, Strong}
use Rattle.tv_formula.specs.Properties.{Property, truth, compare, at, term, negated, all_of, some_of, next, fix, Properties, none, more}
use Rattle.tv_formula.specs.Forms.{is_normal, are_normal}
use Rattle.tv_program.specs.Steps.{State}
use Rattle.tv_cases.specs.LinearCases.{CaseSystem, CaseSteps, IsCase}
use Rattle.tv_program.specs.Runs.{Must, reached, further, Ends, all_end}
use Rattle.tv_meaning.specs.Meaning.{FixHolds, NextHolds, Holds, AllHold, SomeHolds}
use Rattle.tv_meaning.proofs.RunLemmas.{Never_ends_by}
use Rattle.tv_known.specs.Cycles.{IsStateOf}
use Rattle.tv_known.specs.Rounds.{ShrinkingRound, Goes, Stops}
use Rattle.tv_known.specs.Known.{FixKnown, Known, AllKnown, SomeKnown, NotKnown}
use Rattle.tv_known.proofs.RankedEnds.{every_run_ends}
use Rattle.tv_known.proofs.RoundLemmas.{stays_state, growing_right, shrinking_right}

module _ (about : CaseSystem) (cases : All (IsCase about.variables about.locations) about.cases) where
  -- ---- a ranked fixpoint is met at each state
  ranked_must : (f g : State → Type 0) → ((s : State) → IsStateOf about s → g s ⊎ (f s × Goes about s)) → {s : State} → IsStateOf about s → Ends (CaseSteps about) s → Must (CaseSteps about) f g s
  ranked_must f g goes {s} is (all_end e) = elim (goes s is) [
    | inl now ↦ reached now
    | inr on ↦ further on.1.0 on.0 on.1.1 (λ t st. ranked_must f g goes (stays_state about cases s t is st) (e t st))
  ]

  module _ (last : ℕ) (p q f g : State → Type 0) (a : (s : State) → IsStateOf about s → p s → f s) (b : (s : State) → IsStateOf about s → q s → g s) where
    both : (s : State) → IsStateOf about s → p s × q s → f s × g s
    both s is h = (a s is h.0, b s is h.1)

    pub fix_known : (path : Path) (shape : Shape) (s : State) → IsStateOf about s → FixKnown about last path shape p q s → FixHolds (CaseSteps about) path shape f g s
    fix_known Every Until s is (inl r) = growing_right about cases p q f g a b Every last s is r
    fix_known Any Until s is (inl r) = growing_right about cases p q f g a b Any last s is r
    fix_known Every Until s is (inr k) =
        ranked_must f g (λ x state. elim (k.goes x state) [ inl now ↦ inl (b x state now) | inr on ↦ inr (a x state on.0, on.1) ]) is (every_run_ends about k.ranking s is.values)
    fix_known Any Until s is (inr k) = absurd k
    fix_known Every Strong s is (inl r) = growing_right about cases q (λ x. p x × q x) g (λ x. f x × g x) b both Every last s is r
    fix_known Any Strong s is (inl r) = growing_right about cases q (λ x. p x × q x) g (λ x. f x × g x) b both Any last s is r
    fix_known Every Strong s is (inr k) =
        ranked_must g (λ x. f x × g x) (λ x state. elim (k.goes x state) [ inl now ↦ inl (both x state now) | inr on ↦ inr (b x state on.0, on.1) ]) is (every_run_ends about k.ranking s is.values)
    fix_known Any Strong s is (inr k) = absurd k
    fix_known Every Weak s is k = shrinking_right about cases p q f g a b Every k.round k.settled s is k.inside
    fix_known Any Weak s is k = shrinking_right about cases p q f g a b Any k.round k.settled s is k.inside
    fix_known Every Release s is k = shrinking_right about cases q (λ x. p x × q x) g (λ x. f x × g x) b both Every k.round k.settled s is k.inside
    fix_known Any Release s is k = shrinking_right about cases q (λ x. p x × q x) g (λ x. f x × g x) b both Any k.round k.settled s is k.inside

  -- ---- `term` and its negation
  until_ends : {s : State} → Must (CaseSteps about) (λ x. Unit {0}) (Stops about) s → Ends (CaseSteps about) s
  until_ends (reached stops) = all_end (λ t st. absurd (stops t st))
  until_ends (further t u st all) = all_end (λ x sx. until_ends (all x sx))

  never_ends : (last : ℕ) (s : State) → IsStateOf about s → FixKnown about last Any Release (λ x. ⊥) (Goes about) s → Ends (CaseSteps about) s → ⊥
  never_ends last s is k ends =
      Never_ends_by (λ x. IsStateOf about x × ShrinkingRound (CaseSteps about) Any (Goes about) (λ y. ⊥ × Goes about y) k.round x) (λ x r. elim ((k.settled x r.0).0 r.1) [
        | inl now ↦ absurd now.0
        | inr on ↦ elim on.1 [ inl some ↦ (some.0, some.1, (stays_state about cases x some.0 r.0 some.1, some.2)) | inr stops ↦ absurd (stops on.0.0 on.0.1) ]
      ]) ends (is, k.inside)

  next_known : (p f : State → Type 0) → ((s : State) → IsStateOf about s → p s → f s) → (path : Path) (s : State) → IsStateOf about s → NextHolds (CaseSteps about) path p s → NextHolds (CaseSteps about) path f s
  next_known p f a Every s is h = λ t st. a t (stays_state about cases s t is st) (h t st)
  next_known p f a Any s is h = (h.0, h.1, a h.0 (stays_state about cases s h.0 is h.1) h.2)

  not_known : (last : ℕ) (f : Property) → is_normal (negated f) ≡ true → (s : State) → IsStateOf about s → NotKnown about last f s → Holds (CaseSteps about) f s → ⊥
  not_known last (at l) n s is h k = h k
  not_known last term n s is h k = never_ends last s is h k
  not_known last (truth b) n s is h k = absurd cc
  not_known last (compare r a b) n s is h k = absurd cc
  not_known last (negated f) n s is h k = absurd cc
  not_known last (all_of fs) n s is h k = absurd cc
  not_known last (some_of fs) n s is h k = absurd cc
  not_known last (next p f) n s is h k = absurd cc
  not_known last (fix p w f g) n s is h k = absurd cc

  module _ (last : ℕ) where
    mutual
      pub known_holds : (f : Property) → is_normal f ≡ true → (s : State) → IsStateOf about s → Known about last f s → Holds (CaseSteps about) f s
      known_holds (truth b) n s is h = h
      known_holds (compare r a b) n s is h = h
      known_holds (at l) n s is h = h
      known_holds term n s is h =
          until_ends (fix_known last (λ x. Unit {0}) (Stops about) (λ x. Unit {0}) (Stops about) (λ x i k. k) (λ x i k. k) Every Until s is h)
      known_holds (negated f) n s is h = not_known last f n s is h
      known_holds (all_of fs) n s is h = all_known fs n s is h
      known_holds (some_of fs) n s is h = some_known fs n s is h
      known_holds (next p f) n s is h = next_known (λ t. Known about last f t) (λ t. Holds (CaseSteps about) f t) (λ t i k. known_holds f n t i k) p s is h
      known_holds (fix p w f g) n s is h =
          fix_known last (λ t. Known about last f t) (λ t. Known about last g t) (λ t. Holds (CaseSteps about) f t) (λ t. Holds (CaseSteps about) g t)
          (λ t i k. known_holds f ((and_parts (is_normal f) (is_normal g) n).0) t i k)
          (λ t i k. known_holds g ((and_parts (is_normal f) (is_normal g) n).1) t i k) p w s is h

      all_known : (fs : Properties) → are_normal fs ≡ true → (s : State) → IsStateOf about s → AllKnown about last fs s → AllHold (CaseSteps about) fs s
      all_known none n s is h = tt
      all_known (more f fs) n s is h = (known_holds f ((and_parts (is_normal f) (are_normal fs) n).0) s is h.0, all_known fs ((and_parts (is_normal f) (are_normal fs) n).1) s is h.1)

      some_known : (fs : Properties) → are_normal fs ≡ true → (s : State) → IsStateOf about s → SomeKnown about last fs s → SomeHolds (CaseSteps about) fs s
      some_known none n s is h = h
      some_known (more f fs) n s is h = elim h [
        | inl k ↦ inl (known_holds f ((and_parts (is_normal f) (are_normal fs) n).0) s is k)
        | inr k ↦ inr (some_known fs ((and_parts (is_normal f) (are_normal fs) n).1) s is k)
      ]
