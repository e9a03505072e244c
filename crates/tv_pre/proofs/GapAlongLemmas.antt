-- What gaps say of formulas on the next states and of fixpoints.
use Rattle.std.proofs.Common.{◌≡◌, inl, inr, ℕ, suc, ◌+◌, [], ◌∷◌, ◌++◌, length, refl, sym, ap, ◌∙◌, subst, arith, slice_get, Bool, true, false, not}
use Rattle.std.specs.Prelude.{All, Option, None, Some, IfSome, is_some}
use Rattle.tv_formula.specs.declared.tree.Path.{Path}
use Rattle.tv_formula.specs.declared.tree.Path.TheVariants.{Every, Any}
use Rattle.tv_formula.specs.declared.tree.Shape.{Shape}
use Rattle.tv_formula.specs.Properties.{Property, fix}
use Rattle.tv_program.specs.Steps.{State}
use Rattle.tv_linear.specs.declared.region.Region.{Region}
use Rattle.tv_cases.specs.Comparisons.{comparison_lists}
use Rattle.tv_cases.specs.LinearCases.{CaseSystem, IsCase}
use Rattle.tv_cert.specs.Statements.{Statement, after, along}
use Rattle.tv_known.specs.Rounds.{FixRound, must_end}
use Rattle.tv_known.specs.Subformulas.{subformulas}
use Rattle.tv_region.specs.StepRegions.{InState}
use Rattle.tv_rounds.specs.Answers.{Differ}
use Rattle.tv_pre.specs.declared.gap.Gap.{Gap}
use Rattle.tv_pre.specs.declared.gap.Gap.TheVariants.{Inexact, Open}
use Rattle.tv_pre.specs.declared.outcome.Found.{Found}
use Rattle.tv_pre.specs.Built.{IsBuilt, AreBuilt}
use Rattle.tv_pre.specs.Full.{HasRows, IsExactly}
use Rattle.tv_pre.specs.Unserved.{IsUnservedBy, IsUnserved}
use Rattle.tv_pre.specs.Finding.{first_of, gap_behind, steps_back, size, IsTameStatement, IsOpenAt, IsGapFor, IsWildStep, IsFound}
use Rattle.tv_pre.proofs.ExactLemmas.{part_exact, fix_open, denied_open}
use Rattle.tv_pre.proofs.FormulaLemmas.{along_is}
use Rattle.tv_pre.proofs.FoundLemmas.{none_of_two, none_behind, sides_built}
use Rattle.tv_pre.proofs.GapLemmas.{gap_in_order, gap_later, tame_less, wild_more, size_is, front_open, back_open, inner_open}
use Rattle.tv_pre.proofs.TameLemmas.{tame_built}
use Rattle.tv_pre.proofs.BetweenLemmas.{unserved_same}

module _ (about : CaseSystem) (last : ℕ) where
  -- ---- next states
  pub step_gap : (path : Path) (s : Statement) (k : ℕ) (into : Region) → IsBuilt about s k into → (own : Option Gap) → IfSome own (IsWildStep about into) → IfSome own (IsGapFor about last (after path s))
  step_gap path s k into b None h = tt
  step_gap path s k into b (Some Inexact) h = record { wild = λ tame. h.1 (tame_built about s (tame_less about s (after path s) (λ a x. x) tame) k k into into b b); moves = λ l. l }
  step_gap path s k into b (Some (Open place)) h = absurd (let e = h.0 in cc)

  -- ---- fixpoints
  module _ (cases : All (IsCase about.variables about.locations) about.cases) (path : Path) (shape : Shape) (s t : Statement) (first second : Found) (h : IsFound about last s first) (g : IsFound about last t second) where
    abbrev round : ℕ → State → Type 0
    round k = FixRound about path shape (InState first.part.region) (InState second.part.region) k

    left_gap : IfSome (gap_behind 1 first.gap) (IsGapFor about last (along path shape s t))
    left_gap =
        gap_later (IsGapFor about last s) (IsGapFor about last (along path shape s t)) 1 first.gap (λ inexact. wild_more about s (along path shape s t) (λ a k. inl k) (λ l. absurd l) inexact)
        (λ place x f e w.
        (let k = along_is (comparison_lists about.variables) path shape s t f e in
        let kept = subst (HasRows about.variables) k.2 w in
        subst (λ (z : Property). IsOpenAt about last (subformulas z) (1 + place)) (sym k.2)
        (inner_open about last (fix path shape k.0 k.1) (subformulas k.0 ++ subformulas k.1) place (front_open about last (subformulas k.0) (subformulas k.1) place (x k.0 k.3 kept.0))))) h.gap

    right_gap : IfSome (gap_behind (1 + first.size) second.gap) (IsGapFor about last (along path shape s t))
    right_gap =
        gap_later (IsGapFor about last t) (IsGapFor about last (along path shape s t)) (1 + first.size) second.gap (λ inexact. wild_more about t (along path shape s t) (λ a k. inr k) (λ l. absurd l) inexact)
        (λ place x f e w.
        (let k = along_is (comparison_lists about.variables) path shape s t f e in
        let kept = subst (HasRows about.variables) k.2 w in
        let many : first.size ≡ length (subformulas k.0) = h.size ∙ ap size k.3 ∙ size_is about.variables k.0 in
        subst (λ (z : Property). IsOpenAt about last (subformulas z) ((1 + first.size) + place)) (sym k.2)
        (back_open about last (fix path shape k.0 k.1 ∷ subformulas k.0) (subformulas k.1) (1 + first.size) place (omega (arith, many)) (x k.1 k.4 kept.1)))) g.gap

    -- the ranks do not serve for the regions of the arguments
    abbrev IsUnservedHere : Path → Type 0
    IsUnservedHere p = p ≡ Every → must_end shape ≡ true → IsUnservedBy about shape (InState first.part.region) (InState second.part.region)

    unserved_of : (p : Path) (f k : Property) → IsExactly about f first.part.region → IsExactly about k second.part.region → IsUnservedHere p → IsUnserved about (fix p shape f k)
    unserved_of Every f k one two u = λ must. unserved_same about shape f k first.part.region second.part.region one two (u refl must)
    unserved_of Any f k one two u = tt

    -- the gap of the fixpoint itself, where its arguments have none
    own_gap : (own gap : Option Gap) → own ≡ gap → first.gap ≡ None → second.gap ≡ None →
        (own ≡ Some Inexact → (u : Statement) (k : ℕ) → AreBuilt about u k (first.part.region ∷ second.part.region ∷ []) → IsTameStatement about u → ⊥) →
        ((place : ℕ) → own ≡ Some (Open place) → (place ≡ 0) × Differ about (round last) (round (suc last))) →
        ((place : ℕ) → own ≡ Some (Open place) → IsUnservedHere path) → IfSome gap (IsGapFor about last (along path shape s t))
    own_gap own None e one two a b u = tt
    own_gap own (Some Inexact) e one two a b u = record {
      wild = λ tame. a e (along path shape s t) (steps_back last s + steps_back last t) (sides_built about last path shape s t first second h g) tame;
      moves = λ l. l;
    }
    own_gap own (Some (Open place)) e one two a b u = λ f x w.
        (let k = along_is (comparison_lists about.variables) path shape s t f x in
        let kept = subst (HasRows about.variables) k.2 w in
        let o = b place e in
        let one_full = h.full one k.0 k.3 kept.0 in
        let two_full = g.full two k.1 k.4 kept.1 in
        let first_exact = part_exact about k.0 first.part.region first.part.node h.over (h.shows k.0 k.3) one_full in
        let second_exact = part_exact about k.1 second.part.region second.part.node g.over (g.shows k.1 k.4) two_full in
        subst (λ (z : Property). IsOpenAt about last (subformulas z) place) (sym k.2) (record {
          part = fix path shape k.0 k.1;
          there = subst (λ j. slice_get (subformulas (fix path shape k.0 k.1)) j ≡ Some (fix path shape k.0 k.1)) (sym o.0) refl;
          unsettled = fix_open about cases path shape k.0 k.1 first.part.region second.part.region first_exact second_exact last o.1;
          denied = λ goes. denied_open about cases path shape k.0 k.1 first.part.region second.part.region first_exact second_exact last o.1 h.over g.over one_full two_full goes;
          unserved = unserved_of path k.0 k.1 first_exact second_exact (u place e);
        }))

    -- where there is one, and going back is exact, the last round has other states than the next one
    pub own_open : (own : Option Gap) (b : Bool) → is_some own ≡ not b → b ≡ false →
        (own ≡ Some Inexact → (u : Statement) (k : ℕ) → AreBuilt about u k (first.part.region ∷ second.part.region ∷ []) → IsTameStatement about u → ⊥) →
        ((place : ℕ) → own ≡ Some (Open place) → (place ≡ 0) × Differ about (round last) (round (suc last))) → IsTameStatement about (along path shape s t) → Differ about (round last) (round (suc last))
    own_open None true e out wild differs tame = absurd cc
    own_open None false e out wild differs tame = absurd cc
    own_open (Some Inexact) b e out wild differs tame = absurd (wild refl (along path shape s t) (steps_back last s + steps_back last t) (sides_built about last path shape s t first second h g) tame)
    own_open (Some (Open place)) b e out wild differs tame = (differs place refl).1

    pub along_gap : (own : Option Gap) →
        (own ≡ Some Inexact → (u : Statement) (k : ℕ) → AreBuilt about u k (first.part.region ∷ second.part.region ∷ []) → IsTameStatement about u → ⊥) →
        ((place : ℕ) → own ≡ Some (Open place) → (place ≡ 0) × Differ about (round last) (round (suc last))) →
        ((place : ℕ) → own ≡ Some (Open place) → IsUnservedHere path) →
        IfSome (first_of (first_of (gap_behind 1 first.gap) (gap_behind (1 + first.size) second.gap)) own) (IsGapFor about last (along path shape s t))
    along_gap own a b u =
        let left = gap_behind 1 first.gap in
        let right = gap_behind (1 + first.size) second.gap in
        let whole = IsGapFor about last (along path shape s t) in
        gap_in_order whole (first_of left right) own (gap_in_order whole left right left_gap (λ e. right_gap))
        (λ e. (let sides = none_of_two left right e in
        own_gap own own refl (none_behind 1 first.gap sides.0) (none_behind (1 + first.size) second.gap sides.1) a b u))

-- what a gap is said to be, where there is this one
pub said_of : (P : Gap → Type 0) (own : Option Gap) (gap : Gap) → own ≡ Some gap → IfSome own P → P gap
said_of P own gap e said = subst (λ o. IfSome o P) e said
