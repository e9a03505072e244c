-- What is answered of the components, one after the other.
use Rattle.std.specs.Prelude.{◌≡◌, ℕ, List, length, ℤ}
use Rattle.tv_linear.specs.declared.region.Piece.{Piece}
use Rattle.tv_cases.specs.LinearCases.{CaseSystem}
use Rattle.tv_rank.specs.Given.{lists}
use Rattle.tv_nested.specs.declared.attempt.Attempt.{Attempt}
use Rattle.tv_nested.specs.declared.attempt.Attempt.TheVariants.{Whole, Stuck}
use Rattle.tv_nested.specs.declared.fault.NestFault.{NestFault}
use Rattle.tv_nested.specs.declared.fault.NestFault.TheVariants as fault
use Rattle.tv_nested.specs.Nested.{AreBarredDepths, NamesSystem}
use Rattle.tv_nested.specs.Parts.{PartsFrom, AreNestedBefore, IsLeft}

-- the rounds leave this set of the component, no terms are nested over it, and the components with lesser numbers have terms
abbrev pub IsFirstUnnested : CaseSystem → List Piece → List ℕ → ℕ → List ℕ → List (List ℤ) → Type 0
IsFirstUnnested about known numbers component set barriers =
    IsLeft about known numbers component set × AreBarredDepths about known set barriers × AreNestedBefore about known numbers component

-- all components have terms, or the first that has none is told
abbrev pub IsAttempt : CaseSystem → List Piece → List ℕ → ℕ → Attempt → Type 0
IsAttempt about known numbers count (Whole parts) = (length parts.items ≡ count) × PartsFrom about known numbers 0 parts.items
IsAttempt about known numbers count (Stuck component set barriers) = IsFirstUnnested about known numbers component set.items (lists barriers.items)

abbrev pub RefusesAttempt : CaseSystem → List Piece → List ℕ → ℕ → NestFault → Type 0
RefusesAttempt about known numbers pivots (fault.Solve system e) = NamesSystem about known numbers pivots system e
RefusesAttempt about known numbers pivots (fault.Cover f) = ⊥
RefusesAttempt about known numbers pivots fault.Memory = Unit {0}
