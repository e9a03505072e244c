-- What the answer of a search says.
use Rattle.std.specs.declared.alloc.AllocError.{AllocError}
use Rattle.std.specs.Global.{Global}
use Rattle.std.specs.Prelude.{◌≡◌, ◌⊎◌, ℕ, ℤ, List, Vec, Result, Ok, IfOk}
use Rattle.tv_program.specs.Programs.{system_of}
use Rattle.tv_formula.specs.Formulas.{property_of}
use Rattle.tv_formula.specs.Normal.{negation}
use Rattle.tv_formula.specs.Properties.{Property}
use Rattle.tv_farkas.specs.declared.budget.Budget.{Budget}
use Rattle.tv_farkas.specs.declared.fault.CoverFault.{CoverFault}
use Rattle.tv_candidates.specs.declared.candidate.Candidate.{Candidate}
use Rattle.tv_settling.specs.Refusals.{RefusesSafety}
use Rattle.tv_settling.specs.declared.fault.EndFault.{EndFault}
use Rattle.tv_settling.specs.declared.fault.EndFault.TheVariants as ends
use Rattle.tv_nested.specs.Nested.{RefusesNest}
use Rattle.tv_nested.specs.declared.fault.NestFault.{NestFault}
use Rattle.tv_cases.specs.Answers.{IsOfProgram, HaveSameSteps}
use Rattle.tv_cases.specs.ProgramCases.{linear_cases}
use Rattle.tv_cases.specs.Systems.{cases_of}
use Rattle.tv_cert.specs.Claims.{claim_variables}
use Rattle.tv_causes.specs.Widths.{IsWideComparison}
use Rattle.tv_top.specs.declared.answer.Answer.{Answer}
use Rattle.tv_top.specs.declared.search.Search.{Search}
use Rattle.tv_points.specs.declared.fault.PointFault.{PointFault}
use Rattle.tv_reaching.specs.FoundRuns.{IsRunFault}
use Rattle.tv_reaching.specs.declared.found.Found.{Found}
use Rattle.tv_rank.specs.declared.name.Name.TheVariants as systems
use Rattle.tv_cases.specs.LinearCases.{CaseSystem}
use Rattle.tv_program.specs.Systems.{System}
use Rattle.tv_region.specs.declared.fault.RegionFault.{RegionFault}
use Rattle.tv_region.specs.declared.fault.RegionFault.TheVariants as regions
use Rattle.tv_pre.specs.declared.gap.Gap.{Gap}
use Rattle.tv_pre.specs.declared.gap.Gap.TheVariants as gaps
use Rattle.tv_pre.specs.declared.fault.PreFault.{PreFault}
use Rattle.tv_pre.specs.declared.fault.PreFault.TheVariants as faults
use Rattle.tv_pre.specs.declared.deciding.Unproved.{Unproved}
use Rattle.tv_pre.specs.declared.deciding.Unproved.TheVariants as unproved
use Rattle.tv_top.specs.declared.answer.Answer.TheVariants as answers
use Rattle.tv_top.specs.declared.cause.Cause.{Cause}
use Rattle.tv_top.specs.declared.cause.Cause.TheVariants as causes
use Rattle.tv_top.specs.Answers.{unsolved, uncovered, unnested, too_wide, unknown}
use Rattle.tv_top.specs.Tasks.{Wanted}
use Rattle.tv_top.specs.Finding.{Offers, Finds, Settles, HasUnnested, budget_of, AreTooManyPieces, IsDrawnAt, IsUnprovedOf}
use Rattle.tv_top.specs.Views.{wanted_view, task_view}

-- the cases are those of the program, and the claim is stated over its variables
pub record IsOfOne (s : Search) : Type 0 where
  pub same_program : IsOfProgram (system_of s.program.now) (cases_of s.about.now)
  pub same_steps : HaveSameSteps (system_of s.program.now) (cases_of s.about.now)
  pub are_cases : linear_cases (system_of s.program.now) ≡ Ok (cases_of s.about.now).cases
  pub variables : claim_variables s.claim.now ≡ (cases_of s.about.now).variables
  pub denies : property_of s.claim.now.denied ≡ negation (property_of s.claim.now.proved)

-- the answer of a certificate, or that of a refusal for which none is made of the rows
abbrev pub IsShownOrNot : Search → Property → ℕ → List Candidate → Budget → Answer → Type 0
IsShownOrNot s f l list budget answer =
    Settles (wanted_view s.task.now.wanted) (system_of s.program.now) f (cases_of s.about.now) answer
    ⊎ ((fault : CoverFault) × (answer ≡ uncovered fault) × RefusesSafety (cases_of s.about.now) list l budget fault)

-- the answer of a certificate of the run, or why there is none
abbrev pub IsReachedOrNot : Search → Property → Found → Answer → Type 0
IsReachedOrNot s f found answer =
    Settles (wanted_view s.task.now.wanted) (system_of s.program.now) f (cases_of s.about.now) answer
    ⊎ ((fault : PointFault) × (answer ≡ too_wide fault) × IsRunFault (cases_of s.about.now) found fault)

-- ---- ranks
-- the answer of a certificate by nested terms, or that no terms rank the set and none are nested, or why this is not settled
abbrev pub IsNestAnswer : Wanted → System → Property → CaseSystem → Budget → Vec ℕ Global → Vec (Vec ℤ Global) Global → Answer → Type 0
IsNestAnswer wanted p f about budget set barriers answer =
    Settles wanted p f about answer
    ⊎ (((answer ≡ answers.Unknown (causes.Unranked set barriers)) × HasUnnested about)
    ⊎ ((fault : NestFault) × (answer ≡ unnested fault) × RefusesNest about budget fault))

-- the answer where a search for ranks gives this in place of a certificate
abbrev pub IsEndAnswer : Wanted → System → Property → CaseSystem → Budget → EndFault → Answer → Type 0
IsEndAnswer wanted p f about budget (ends.Solve system fault) answer = answer ≡ unsolved system fault
IsEndAnswer wanted p f about budget (ends.Cover fault) answer = answer ≡ uncovered fault
IsEndAnswer wanted p f about budget (ends.Rank set barriers) answer = IsNestAnswer wanted p f about budget set barriers answer
IsEndAnswer wanted p f about budget ends.Memory answer = answer ≡ answers.Memory

-- ---- formulas over paths

-- the answer reports `count` pieces at a location, unless memory runs out
pub record AnswersPieces (p : System) (l count : ℕ) (answer : Answer) : Type 0 where
  pub cause : Result Cause AllocError
  pub is : answer ≡ unknown cause
  pub many : IfOk cause (AreTooManyPieces p l count)

-- the answer where a call on regions was refused
abbrev pub AnswersRegion : System → RegionFault → Answer → Type 0
AnswersRegion p (regions.Disjuncts l count) answer = AnswersPieces p l count answer
AnswersRegion p (regions.Wide column) answer = answer ≡ answers.Unknown (causes.Composed column)
AnswersRegion p (regions.Solve rows e) answer = answer ≡ unsolved (systems.Rows rows) e
AnswersRegion p regions.Memory answer = answer ≡ answers.Memory

-- or a question of regions, or a system of the search for ranks
abbrev pub AnswersRefusal : System → PreFault → Answer → Type 0
AnswersRefusal p (faults.Region fault) answer = AnswersRegion p fault answer
AnswersRefusal p (faults.Cover fault) answer = answer ≡ uncovered fault
AnswersRefusal p (faults.Rank system e) answer = answer ≡ unsolved system e
AnswersRefusal p faults.Memory answer = answer ≡ answers.Memory

-- where a region may lack states, since going back is not exact: the answer names a case with a draw
abbrev pub AnswersInexact : CaseSystem → Answer → Type 0
AnswersInexact about answer = (number : ℕ) × IsDrawnAt about number × (answer ≡ answers.Unknown (causes.Drawn number))

-- where a region may lack states
abbrev pub AnswersLeft : CaseSystem → Gap → Answer → Type 0
AnswersLeft about gaps.Inexact answer = AnswersInexact about answer
AnswersLeft about (gaps.Open place) answer = answer ≡ answers.Unknown (causes.Unsettled place)

-- where a comparison has no rows: the answer names the first column that is too wide, unless memory runs out
abbrev pub AnswersWide : CaseSystem → Property → Answer → Type 0
AnswersWide about f answer =
    (answer ≡ answers.Memory)
    ⊎ ((column : ℕ) × (answer ≡ answers.Unknown (causes.WideComparison column)) × IsWideComparison about.variables f column)

-- the answer where there is no certificate of a formula
abbrev pub AnswersUnproved : System → CaseSystem → Property → Unproved → Answer → Type 0
AnswersUnproved p about f (unproved.Refused fault) answer = AnswersRefusal p fault answer
AnswersUnproved p about f (unproved.Left gap) answer = AnswersLeft about gap answer
AnswersUnproved p about f (unproved.Wide place) answer = AnswersWide about f answer

-- the answer of a certificate of the formula, or why there is none
abbrev pub IsFormulaAnswer : Search → Property → Answer → Type 0
IsFormulaAnswer s f answer =
    Settles (wanted_view s.task.now.wanted) (system_of s.program.now) f (cases_of s.about.now) answer
    ⊎ ((why : Unproved) × AnswersUnproved (system_of s.program.now) (cases_of s.about.now) f why answer
    × IsUnprovedOf (cases_of s.about.now) f (budget_of (task_view s.task.now).limits) why)

-- it is not known whether the property holds
abbrev pub IsUnknown : Answer → Type 0
IsUnknown (answers.Unknown cause) = Unit {0}
IsUnknown answer = ⊥

-- the answer is the one that was there, or that of a certificate
abbrev pub IsSameOrSettles : Search → Property → Answer → Answer → Type 0
IsSameOrSettles s f old new = (new ≡ old) ⊎ Settles (wanted_view s.task.now.wanted) (system_of s.program.now) f (cases_of s.about.now) new

-- the answer to whether the program has the property
abbrev pub Answers : Offers → Search → Property → Answer → Type 0
Answers offers s f answer = Finds offers (task_view s.task.now) (system_of s.program.now) f (cases_of s.about.now) answer
