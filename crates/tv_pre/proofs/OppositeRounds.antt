-- Rounds of a fixpoint and of its negation: each lacks what the other has.
use Rattle.std.proofs.Common.{◌⊎◌, inl, inr, ℕ, zero, suc, Bool, true, false, not}
use Rattle.std.specs.Prelude.{All, ◌↔◌}
use Rattle.tv_formula.specs.declared.tree.Path.{Path}
use Rattle.tv_formula.specs.declared.tree.Path.TheVariants.{Every, Any}
use Rattle.tv_formula.specs.declared.tree.Shape.{Shape}
use Rattle.tv_formula.specs.declared.tree.Shape.TheVariants.{Until, Weak, Release, Strong}
use Rattle.tv_formula.specs.Normal.{other_path, other_shape}
use Rattle.tv_program.specs.Steps.{State}
use Rattle.tv_cases.specs.LinearCases.{CaseSystem, CaseSteps, IsCase}
use Rattle.tv_known.specs.Cycles.{IsStateOf}
use Rattle.tv_known.specs.Rounds.{StaysIn, GrowingRound, ShrinkingRound, RoundBy, FixRound, IsFixSettled, Goes}
use Rattle.tv_known.specs.Laws.{Decides}
use Rattle.tv_known.proofs.RoundLemmas.{stays_state}

module _ {S : Type 0} (step : S → S → Type 0) (path : Path) (hold end : S → Type 0) where
  -- a round that shrinks has the states of the next one
  stays_back : (q : Path) (P R : S → Type 0) (s : S) → ((t : S) → P t → R t) → StaysIn step q P s → StaysIn step q R s
  stays_back Every P R s w h = λ t st. w t (h t st)
  stays_back Any P R s w (inl h) = inl (h.0, h.1, w h.0 h.2)
  stays_back Any P R s w (inr h) = inr h

  shrinks_back : (j : ℕ) (s : S) → ShrinkingRound step path hold end (suc j) s → ShrinkingRound step path hold end j s
  shrinks_back zero s (inl x) = inr x
  shrinks_back zero s (inr x) = inl x.0
  shrinks_back (suc j) s (inl x) = inl x
  shrinks_back (suc j) s (inr x) = inr (x.0, stays_back path (ShrinkingRound step path hold end (suc j)) (ShrinkingRound step path hold end j) s (λ t y. shrinks_back j t y) x.1)

  -- a round that grows has the states at the end
  grows_from : (j : ℕ) (s : S) → end s → GrowingRound step path hold end j s
  grows_from zero s x = x
  grows_from (suc j) s x = inl (grows_from j s x)

-- of the sides of a fixpoint over some run, and of one over every run: they exclude each other, and each state is in one of them
record AreOpposite (about : CaseSystem) (hold end other_hold other_end : State → Type 0) : Type 0 where
  on_way : (s : State) → IsStateOf about s → end s → other_hold s → ⊥
  at_end : (s : State) → IsStateOf about s → end s → other_end s → ⊥
  to_end : (s : State) → IsStateOf about s → hold s → other_end s → ⊥
  told : (s : State) → IsStateOf about s → end s ⊎ (other_end s ⊎ (other_hold s × hold s))

-- the state is in one of the two sets alone
abbrev pub IsInOne : (State → Type 0) → (State → Type 0) → State → Type 0
IsInOne P Q s = (P s × (Q s → ⊥)) ⊎ (Q s × (P s → ⊥))

module _ (about : CaseSystem) (cases : All (IsCase about.variables about.locations) about.cases) where
  module _ (hold end other_hold other_end : State → Type 0) (o : AreOpposite about hold end other_hold other_end) where
    abbrev Some : Bool → ℕ → State → Type 0
    Some grows j s = RoundBy grows (CaseSteps about) Any hold end j s

    abbrev All' : Bool → ℕ → State → Type 0
    All' grows j s = RoundBy grows (CaseSteps about) Every other_hold other_end j s

    -- ---- no state is in both
    apart_grown : (j : ℕ) (s : State) → IsStateOf about s → Some true j s → All' false j s → ⊥
    apart_grown zero s is a (inl b) = o.on_way s is a b
    apart_grown zero s is a (inr b) = o.at_end s is a b
    apart_grown (suc j) s is (inl a) b = apart_grown j s is a (shrinks_back (CaseSteps about) Every other_hold other_end j s b)
    apart_grown (suc j) s is (inr a) (inl b) = o.to_end s is a.0 b
    apart_grown (suc j) s is (inr a) (inr b) = apart_grown j a.1.0 (stays_state about cases s a.1.0 is a.1.1) a.1.2 (b.1 a.1.0 a.1.1)

    apart_shrunk : (j : ℕ) (s : State) → IsStateOf about s → All' true j s → Some false j s → ⊥
    apart_shrunk zero s is b (inl a) = o.to_end s is a b
    apart_shrunk zero s is b (inr a) = o.at_end s is a b
    apart_shrunk (suc j) s is (inl b) a = apart_shrunk j s is b (shrinks_back (CaseSteps about) Any hold end j s a)
    apart_shrunk (suc j) s is (inr b) (inl a) = o.on_way s is a b.0
    apart_shrunk (suc j) s is (inr b) (inr a) = elim a.1 [
      | inl t ↦ apart_shrunk j t.0 (stays_state about cases s t.0 is t.1) (b.1.1 t.0 t.1) t.2
      | inr stops ↦ stops b.1.0.0 b.1.0.1
    ]

    apart : (grows : Bool) (j : ℕ) (s : State) → IsStateOf about s → Some grows j s → All' (not grows) j s → ⊥
    apart true j s is a b = apart_grown j s is a b
    apart false j s is a b = apart_shrunk j s is b a

    -- ---- a state that is not in the one is in the other
    out_grown : (j : ℕ) (s : State) → IsStateOf about s → (Some true j s → ⊥) → All' false j s
    out_grown zero s is none = elim (o.told s is) [
      | inl x ↦ absurd (none x)
      | inr y ↦ elim y [ inl x ↦ inr x | inr x ↦ inl x.0 ]
    ]
    out_grown (suc j) s is none = elim (o.told s is) [
      | inl x ↦ absurd (none (grows_from (CaseSteps about) Any hold end (suc j) s x))
      | inr y ↦ elim y [
        | inl x ↦ inl x
        | inr x ↦ inr (x.0, λ t st. out_grown j t (stays_state about cases s t is st) (λ a. none (inr (x.1, (t, st, a)))))
      ]
    ]

    module _ (goes : Decides about (Goes about)) where
      out_shrunk : (j : ℕ) (s : State) → IsStateOf about s → (Some false j s → ⊥) → All' true j s
      out_shrunk zero s is none = elim (o.told s is) [
        | inl x ↦ absurd (none (inr x))
        | inr y ↦ elim y [ inl x ↦ x | inr x ↦ absurd (none (inl x.1)) ]
      ]
      out_shrunk (suc j) s is none = elim (o.told s is) [
        | inl x ↦ absurd (none (inl x))
        | inr y ↦ elim y [
          | inl x ↦ grows_from (CaseSteps about) Every other_hold other_end (suc j) s x
          | inr x ↦ elim (goes s is) [
            | inl go ↦ inr (x.0, (go, λ t st. out_shrunk j t (stays_state about cases s t is st) (λ a. none (inr (x.1, inl (t, st, a))))))
            | inr stops ↦ absurd (none (inr (x.1, inr (λ t st. stops (t, st)))))
          ]
        ]
      ]

      out : (grows : Bool) (j : ℕ) (s : State) → IsStateOf about s → (Some grows j s → ⊥) → All' (not grows) j s
      out true j s is none = out_grown j s is none
      out false j s is none = out_shrunk j s is none

      -- ---- where a round of the one is settled, that of the other has the states of its next one
      some_settled : (grows : Bool) (m : ℕ) → ((s : State) → IsStateOf about s → Some grows m s ↔ Some grows (suc m) s) → (s : State) → IsStateOf about s → IsInOne (All' (not grows) m) (All' (not grows) (suc m)) s → ⊥
      some_settled grows m settled s is (inl w) = w.1 (out grows (suc m) s is (λ a. apart grows m s is ((settled s is).1 a) w.0))
      some_settled grows m settled s is (inr w) = w.1 (out grows m s is (λ a. apart grows (suc m) s is ((settled s is).0 a) w.0))

      all_settled : (grows : Bool) (m : ℕ) → ((s : State) → IsStateOf about s → All' (not grows) m s ↔ All' (not grows) (suc m) s) → (s : State) → IsStateOf about s → IsInOne (Some grows m) (Some grows (suc m)) s → ⊥
      all_settled grows m settled s is (inl w) = apart grows m s is w.0 ((settled s is).1 (out grows (suc m) s is w.1))
      all_settled grows m settled s is (inr w) = apart grows (suc m) s is w.0 ((settled s is).0 (out grows m s is w.1))

-- ---- of two properties of states, and of two others that hold where these do not
module _ (about : CaseSystem) (P Q N M : State → Type 0) (first : (s : State) → IsStateOf about s → P s → N s → ⊥) (second : (s : State) → IsStateOf about s → Q s → M s → ⊥)
    (told_first : (s : State) → IsStateOf about s → P s ⊎ N s) (told_second : (s : State) → IsStateOf about s → Q s ⊎ M s) where
  one_end : AreOpposite about P Q M (λ s. N s × M s)
  one_end = record {
    on_way = second;
    at_end = λ s is x y. second s is x y.1;
    to_end = λ s is x y. first s is x y.0;
    told = λ s is. elim (told_second s is) [
      | inl x ↦ inl x
      | inr y ↦ elim (told_first s is) [ inl x ↦ inr (inr (y, x)) | inr x ↦ inr (inl (x, y)) ]
    ];
  }

  two_ends : AreOpposite about Q (λ s. P s × Q s) N M
  two_ends = record {
    on_way = λ s is x y. first s is x.0 y;
    at_end = λ s is x y. second s is x.1 y;
    to_end = second;
    told = λ s is. elim (told_second s is) [
      | inl x ↦ elim (told_first s is) [ inl y ↦ inl (y, x) | inr y ↦ inr (inr (y, x)) ]
      | inr y ↦ inr (inl y)
    ];
  }

-- where a round of a fixpoint and its next one differ in a state, the round of the negation is not settled either
module _ (about : CaseSystem) (cases : All (IsCase about.variables about.locations) about.cases) (P Q N M : State → Type 0)
    (first : (s : State) → IsStateOf about s → P s → N s → ⊥) (second : (s : State) → IsStateOf about s → Q s → M s → ⊥)
    (told_first : (s : State) → IsStateOf about s → P s ⊎ N s) (told_second : (s : State) → IsStateOf about s → Q s ⊎ M s) (goes : Decides about (Goes about)) (m : ℕ) where
  first_back : (s : State) → IsStateOf about s → N s → P s → ⊥
  first_back s is x y = first s is y x

  second_back : (s : State) → IsStateOf about s → M s → Q s → ⊥
  second_back s is x y = second s is y x

  turned_first : (s : State) → IsStateOf about s → N s ⊎ P s
  turned_first s is = elim (told_first s is) [ inl x ↦ inr x | inr x ↦ inl x ]

  turned_second : (s : State) → IsStateOf about s → M s ⊎ Q s
  turned_second s is = elim (told_second s is) [ inl x ↦ inr x | inr x ↦ inl x ]

  pub opposite_open : (path : Path) (shape : Shape) (s : State) → IsStateOf about s → IsInOne (FixRound about path shape P Q m) (FixRound about path shape P Q (suc m)) s → IsFixSettled about (other_path path) (other_shape shape) N M m → ⊥
  opposite_open Any Until s is w settled = all_settled about cases P Q M (λ t. N t × M t) (one_end about P Q N M first second told_first told_second) goes true m settled s is w
  opposite_open Any Weak s is w settled = all_settled about cases P Q M (λ t. N t × M t) (one_end about P Q N M first second told_first told_second) goes false m settled s is w
  opposite_open Any Release s is w settled = all_settled about cases Q (λ t. P t × Q t) N M (two_ends about P Q N M first second told_first told_second) goes false m settled s is w
  opposite_open Any Strong s is w settled = all_settled about cases Q (λ t. P t × Q t) N M (two_ends about P Q N M first second told_first told_second) goes true m settled s is w
  opposite_open Every Until s is w settled = some_settled about cases M (λ t. N t × M t) P Q (two_ends about N M P Q first_back second_back turned_first turned_second) goes false m settled s is w
  opposite_open Every Weak s is w settled = some_settled about cases M (λ t. N t × M t) P Q (two_ends about N M P Q first_back second_back turned_first turned_second) goes true m settled s is w
  opposite_open Every Release s is w settled = some_settled about cases N M Q (λ t. P t × Q t) (one_end about N M P Q first_back second_back turned_first turned_second) goes true m settled s is w
  opposite_open Every Strong s is w settled = some_settled about cases N M Q (λ t. P t × Q t) (one_end about N M P Q first_back second_back turned_first turned_second) goes false m settled s is w
