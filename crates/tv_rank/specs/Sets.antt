-- Questions of a set of cases of a program.
use Rattle.std.specs.Prelude.{◌≡◌, ℕ, ◌<◌, List, length, get_or, Result, IfOk}
use Rattle.std.specs.Result.{IfErr}
use Rattle.tv_linear.specs.declared.region.Piece.{Piece}
use Rattle.tv_cases.specs.LinearCases.{CaseSystem}
use Rattle.tv_simplex.specs.Systems.{Equations}
use Rattle.tv_simplex.specs.declared.fault.SolveFault.{SolveFault}
use Rattle.tv_rank.specs.declared.found.Found.{Found}
use Rattle.tv_rank.specs.Ways.{way_at}
use Rattle.tv_rank.specs.RankingSystem.{ranking_system}
use Rattle.tv_rank.specs.Rankings.{HasPoint}
use Rattle.tv_rank.specs.Answers.{IsFound, GivesFound, IsRefusal, RefusesLarge, RefusesFirst, IsNeverSpent}

-- each case of the set has a rational point, together with the rows that are known where it starts
abbrev pub PointsOf : CaseSystem → List Piece → List ℕ → Type 0
PointsOf about known set = (k : ℕ) → k < length set → HasPoint about.variables (way_at about.cases known set k)

-- the ranking system of a set of cases, where the one at `place` falls
abbrev pub system_of_set : CaseSystem → List Piece → List ℕ → ℕ → Equations
system_of_set about known set place = ranking_system (way_at about.cases known set) (length set) place about.variables about.locations

-- what a set of cases, where the one at `place` falls, is answered under the rows that are known at the locations: a family or a
-- barrier, which the last basis of the chain of the ranking system gives
pub record IsRankedAt (about : CaseSystem) (known : List Piece) (set : List ℕ) (place : ℕ) (f : Found) : Type 0 where
  pub found : IsFound about.variables about.locations (length set) (way_at about.cases known set) place f
  pub last : GivesFound about.variables about.locations (length set) (way_at about.cases known set) place f

-- what is answered of a set in which the falling case stands
pub record AnswersFor (about : CaseSystem) (known : List Piece) (set : List ℕ) (falling pivots : ℕ) (result : Result Found SolveFault) : Type 0 where
  pub place : ℕ
  pub within : place < length set
  pub falls : get_or set place 0 ≡ falling
  pub ranked : IfOk result (λ f. IsRankedAt about known set place f)
  pub refusals : IfErr result (λ e. IsRefusal (system_of_set about known set place) pivots e)
  pub size : RefusesLarge (system_of_set about known set place) result
  pub first_wide : RefusesFirst (system_of_set about known set place) result
  pub enough : IsNeverSpent (system_of_set about known set place) pivots result
