-- When the search for a formula reports no gap.
use Rattle.std.specs.Prelude.{◌≡◌, ℕ, ◌<◌, ◌≤◌, List, Contains}
use Rattle.tv_program.specs.Steps.{State}
use Rattle.tv_formula.specs.Normal.{normal}
use Rattle.tv_formula.specs.Parts.{HasParts}
use Rattle.tv_formula.specs.declared.tree.Path.{Path}
use Rattle.tv_formula.specs.declared.tree.Shape.{Shape}
use Rattle.tv_formula.specs.Properties.{Property}
use Rattle.tv_farkas.specs.declared.budget.Budget.{Budget}
use Rattle.tv_farkas.specs.declared.fault.CoverFault.{CoverFault}
use Rattle.tv_farkas.specs.declared.fault.CoverFault.TheVariants as covers
use Rattle.tv_cases.specs.LinearCases.{CaseSystem}
use Rattle.tv_cert.specs.declared.claim.Claim.{Claim}
use Rattle.tv_cert.specs.AimViews.{aim_states}
use Rattle.tv_cert.specs.Claims.{IsClaim, claim_variables}
use Rattle.tv_known.specs.Cycles.{HasCycle, IsLastRound}
use Rattle.tv_known.specs.Known.{IsDecided}
use Rattle.tv_known.specs.Laws.{IsRankedUntil}
use Rattle.tv_known.specs.Ranking.{HasLexicographicRanking}
use Rattle.tv_known.specs.Rounds.{IsSettled}
use Rattle.tv_known.specs.Sizes.{IsSize}
use Rattle.tv_known.specs.Subformulas.{subformulas, IsUnsettled}
use Rattle.tv_rank.specs.declared.name.Name.{Name}
use Rattle.tv_region.specs.StepRegions.{HasNoDraws}
use Rattle.tv_region.specs.declared.fault.RegionFault.TheVariants as regions
use Rattle.tv_simplex.specs.declared.fault.SolveFault.{SolveFault}
use Rattle.tv_pre.specs.declared.gap.Gap.{Gap}
use Rattle.tv_pre.specs.declared.deciding.Unproved.TheVariants as unproved
use Rattle.tv_pre.specs.declared.fault.PreFault.TheVariants as faults
use Rattle.tv_pre.specs.Finding.{IsTameStatement, IsPlainProgram}
use Rattle.tv_pre.specs.Counted.{IsFewRefused}
use Rattle.tv_pre.specs.Proving.{IsAskedOfClaim, IsUnproved}
use Rattle.tv_pre.specs.Unserved.{IsRankingRefused}

-- round k settles each fixpoint among the properties, and termination and its negation if they are among them
abbrev pub AreSettled : CaseSystem → ℕ → List Property → Type 0
AreSettled about k fs = (f : Property) → Contains fs f → IsUnsettled about k f → ⊥

-- the claim is one of the property, over the variables of the program
pub record IsClaimOn (about : CaseSystem) (claim : Claim) (f : Property) : Type 0 where
  pub is : IsClaim claim f
  pub variables : claim_variables claim ≡ about.variables

-- where going back is exact for the normal form of a property - no case has a draw, or the cases and the comparisons are of differences - and
-- the last round settles each fixpoint of it, and termination where it stands in it, no claim of the property is left open with a gap:
-- nothing is asked of the negation
abbrev pub SettledIsTold : CaseSystem → Claim → Property → Budget → Gap → Type 0
SettledIsTold about claim f budget gap =
    IsClaimOn about claim f → IsTameStatement about (aim_states claim.proved_aim) → (last : ℕ) → IsLastRound about 8 last
    → AreSettled about last (subformulas (normal f)) → IsUnproved about claim budget (unproved.Left gap) → ⊥

-- nor where the program has neither a draw nor a cycle
abbrev pub PlainIsTold : CaseSystem → Claim → Budget → Gap → Type 0
PlainIsTold about claim budget gap =
    IsPlainProgram about → IsUnproved about claim budget (unproved.Left gap) → ⊥

-- nor where going back is exact for the normal form, and the rounds up to the last tell of each state at the start that the property holds
-- there, or of one that its negation does
abbrev pub DecidedIsTold : CaseSystem → Claim → Property → Budget → Gap → Type 0
DecidedIsTold about claim f budget gap =
    IsClaimOn about claim f → IsTameStatement about (aim_states claim.proved_aim) → IsDecided about f → (last : ℕ) → IsLastRound about 8 last
    → IsUnproved about claim budget (unproved.Left gap) → ⊥

-- Where the property is to come to its end on every run of a program without draws that has a lexicographic ranking, its arguments are of one
-- state each, and each state is at the end, or on the way with a step, no claim of it is left open with a gap.
abbrev pub RankedUntilIsTold : CaseSystem → Claim → Property → Budget → Gap → Type 0
RankedUntilIsTold about claim f budget gap =
    IsClaimOn about claim f → HasNoDraws about → IsRankedUntil about f → (last : ℕ) → IsLastRound about 8 last
    → IsUnproved about claim budget (unproved.Left gap) → ⊥

-- Where no case has a draw, and each conjunction and disjunction of the property has a part, a claim of it that is refused for too many
-- pieces is refused for no more of them than the size of the property; and the limit is below that number.
abbrev pub RefusalIsWithinSize : CaseSystem → Claim → Property → Budget → Type 0
RefusalIsWithinSize about claim f budget =
    IsClaimOn about claim f → HasNoDraws about → HasParts f → (location pieces : ℕ) →
    IsUnproved about claim budget (unproved.Refused (faults.Region (regions.Disjuncts location pieces))) →
    (n : ℕ) → IsSize about f n → (budget.disjuncts < pieces) × (pieces ≤ n)

-- Where no case has a draw, and each conjunction and disjunction of the property has a part, a question that a claim of it is refused for is
-- one of the claim with no more targets at each location than the size of the property.
abbrev pub QuestionIsWithinSize : CaseSystem → Claim → Property → Budget → Type 0
QuestionIsWithinSize about claim f budget =
    IsClaimOn about claim f → HasNoDraws about → HasParts f → (fault : CoverFault) → (fault ≡ covers.Memory → ⊥) →
    IsUnproved about claim budget (unproved.Refused (faults.Cover fault)) →
    (n : ℕ) → IsSize about f n → IsFewRefused about budget (IsAskedOfClaim about claim) (λ l. n) fault

-- in a program without a cycle the round of the number of locations is settled
abbrev pub AcyclicIsSettled : CaseSystem → Path → Shape → (State → Type 0) → (State → Type 0) → Type 0
AcyclicIsSettled about path shape hold end = (HasCycle about → ⊥) → IsSettled about path shape hold end about.locations

-- so it settles each fixpoint, `term` and its negation
abbrev pub NoneIsUnsettled : CaseSystem → Property → Type 0
NoneIsUnsettled about f = (HasCycle about → ⊥) → IsUnsettled about about.locations f → ⊥

-- a program without a cycle has a lexicographic ranking
abbrev pub AcyclicIsRanked : CaseSystem → Type 0
AcyclicIsRanked about = (HasCycle about → ⊥) → HasLexicographicRanking about

-- and no system of the search for it is refused
abbrev pub AcyclicIsUnrefused : CaseSystem → Type 0
AcyclicIsUnrefused about =
    (HasCycle about → ⊥) → (pivots : ℕ) (system : Name) (fault : SolveFault) → IsRankingRefused about pivots system fault → ⊥
