-- What the answer of a search says of a program and a property.
use Rattle.std.specs.Prelude.{◌≡◌, ◌⊎◌, ℕ, ◌<◌, ◌≤◌, ℤ, List, [], length, Option, Some, slice_get, Vec}
use Rattle.std.specs.Global.{Global}
use Rattle.tv_program.specs.Systems.{System}
use Rattle.tv_formula.specs.Properties.{Property, term}
use Rattle.tv_formula.specs.Forms.{never_at}
use Rattle.tv_formula.specs.Normal.{normal}
use Rattle.tv_meaning.specs.Meaning.{HoldsInitially}
use Rattle.tv_cases.specs.LinearCases.{LinearCase, CaseSystem}
use Rattle.tv_candidates.specs.declared.candidate.Candidate.{Candidate}
use Rattle.tv_candidates.specs.Inductive.{IsInductive}
use Rattle.tv_invariant.specs.Asking.{Gave}
use Rattle.tv_invariant.specs.Passes.{AreOver}
use Rattle.tv_invariant.specs.Places.{rows_at}
use Rattle.tv_known.specs.Recurrences.{HasSimpleRecurrence}
use Rattle.tv_known.specs.Sizes.{IsSize}
use Rattle.tv_recur.specs.Refusing.{IsRefusal}
use Rattle.tv_points.specs.declared.fault.PointFault.TheVariants as points
use Rattle.tv_reaching.specs.FoundRuns.{IsFoundRun, IsRunFault}
use Rattle.tv_reaching.specs.declared.found.Found.{Found}
use Rattle.tv_search.specs.Answers.{IsKnown, HasNoPoint, IsUnsearched}
use Rattle.tv_search.specs.declared.search_fault.SearchFault.TheVariants as searches
use Rattle.tv_farkas.specs.declared.budget.Budget.{Budget}
use Rattle.tv_farkas.specs.declared.fault.CoverFault.{CoverFault}
use Rattle.tv_farkas.specs.declared.fault.CoverFault.TheVariants as covers
use Rattle.tv_rank.specs.declared.name.Name.{Name}
use Rattle.tv_rank.specs.declared.name.Name.TheVariants as systems
use Rattle.tv_nested.specs.Nested.{IsUnnested, RefusesNest}
use Rattle.tv_nested.specs.declared.fault.NestName.{NestName}
use Rattle.tv_nested.specs.declared.fault.NestFault.{NestFault}
use Rattle.tv_nested.specs.declared.fault.NestFault.TheVariants as nests
use Rattle.tv_top.specs.declared.named_system.NamedSystem.{NamedSystem}
use Rattle.tv_top.specs.declared.named_system.NamedSystem.TheVariants.{Searched}
use Rattle.tv_top.specs.Answers.{nest_system}
use Rattle.tv_simplex.specs.declared.fault.SolveFault.{SolveFault}
use Rattle.tv_simplex.specs.declared.fault.SolveFault.TheVariants as solving
use Rattle.tv_cert.specs.declared.claim.Claim.{Claim}
use Rattle.tv_cert.specs.declared.node.Verdict.{Verdict}
use Rattle.tv_cert.specs.declared.node.Verdict.TheVariants as verdicts
use Rattle.tv_cert.specs.Claims.{IsClaim, about_with, claim_variables, shown}
use Rattle.tv_cert.specs.Nodes.{obligations}
use Rattle.tv_cert.specs.Obligations.{AllMet}
use Rattle.tv_cert_reader.specs.Texts.{IsCertificateText}
use Rattle.tv_shape.specs.Certificates.{IsOf}
use Rattle.tv_shape.specs.declared.certificate.Certificate.{Certificate}
use Rattle.tv_lexrank.specs.Certified.{SaysProved}
use Rattle.tv_sound.specs.Following.{Follows, FollowsFrom}
use Rattle.tv_sound.specs.Settled.{FailsAt, IsSettled}
use Rattle.tv_settling.specs.declared.fault.EndFault.{EndFault}
use Rattle.tv_settling.specs.declared.fault.EndFault.TheVariants as ends
use Rattle.tv_settling.specs.Closed.{HaveNoPoint}
use Rattle.tv_settling.specs.Ends.{IsStuckAlone, IsFirstFault, RefusesFound}
use Rattle.tv_settling.specs.Refusals.{RefusesSafety}
use Rattle.tv_causes.specs.Widths.{IsWideComparison}
use Rattle.tv_region.specs.StepRegions.{HasNoDraws}
use Rattle.tv_region.specs.declared.fault.RegionFault.{RegionFault}
use Rattle.tv_region.specs.declared.fault.RegionFault.TheVariants as regions
use Rattle.tv_pre.specs.declared.fault.PreFault.TheVariants as faults
use Rattle.tv_pre.specs.declared.gap.Gap.TheVariants.{Inexact, Open}
use Rattle.tv_pre.specs.declared.deciding.Unproved.{Unproved}
use Rattle.tv_pre.specs.declared.deciding.Unproved.TheVariants.{Refused, Left, Wide}
use Rattle.tv_pre.specs.Proving.{IsUnproved}
use Rattle.tv_top.specs.Generated.{count_lines}
use Rattle.tv_top.specs.Traces.{IsRunText}
use Rattle.tv_top.specs.Tasks.{Limits, Wanted, nothing_more, its_text, its_counts, its_trace, Task}
use Rattle.tv_top.specs.declared.assignment.Assignment.{Assignment}
use Rattle.tv_top.specs.declared.cause.Cause.{Cause}
use Rattle.tv_top.specs.declared.system_fault.SystemFault.{SystemFault}
use Rattle.tv_top.specs.declared.system_fault.SystemFault.TheVariants as kept
use Rattle.tv_top.specs.declared.cause.Cause.TheVariants.{Unsolved, Spent, Composed, Unranked, Weak, TooManyPaths, TooManyPieces, Drawn, Unsettled, WideComparison}
use Rattle.tv_top.specs.declared.answer.Answer.{Answer}
use Rattle.tv_top.specs.declared.answer.Answer.TheVariants as answers

-- how far a search goes
abbrev pub budget_of : Limits → Budget
budget_of l = record { pivots = l.pivots; splits = l.splits; disjuncts = l.disjuncts }

-- how many obligations the certificate has
abbrev pub obligation_count : CaseSystem → Claim → Certificate → ℕ
obligation_count about claim c = length (obligations (about_with about) (shown claim c.verdict) c.root c.verdict)

-- what is written after the verdict: nothing, a text of the certificate, the numbers of loops, cases and obligations, or states of a run
abbrev pub IsTextOf : Wanted → System → CaseSystem → Claim → Certificate → List ℕ → Type 0
IsTextOf nothing_more p about claim c text = text ≡ []
IsTextOf its_text p about claim c text = IsCertificateText about claim text c
IsTextOf (its_counts loops) p about claim c text = text ≡ count_lines loops (length about.cases) (obligation_count about claim c)
IsTextOf (its_trace count) p about claim c text = IsRunText p about claim c count text

-- a certificate that the property holds, which fits, and all of whose obligations are met; and so it does, at every initial state
pub record IsShown (wanted : Wanted) (p : System) (f : Property) (about : CaseSystem) (text : List ℕ) : Type 0 where
  pub claim : Claim
  pub is_claim : IsClaim claim f
  pub certificate : Certificate
  pub fits : IsOf (about_with about) (shown claim certificate.verdict) certificate
  pub proved : SaysProved certificate.verdict
  pub met : AllMet (obligations (about_with about) (shown claim certificate.verdict) certificate.root certificate.verdict)
  pub holds : HoldsInitially p f
  pub is_text : IsTextOf wanted p about claim certificate text

-- A certificate that the property fails at the state at the start with these values, which fits, and all of whose obligations are met; and
-- so it does there. Where its normal form is `term`, the choices of the certificate lead from there along an endless run.
pub record IsRefuted (wanted : Wanted) (p : System) (f : Property) (about : CaseSystem) (at : Assignment) (text : List ℕ) : Type 0 where
  pub claim : Claim
  pub is_claim : IsClaim claim f
  pub certificate : Certificate
  pub fits : IsOf (about_with about) (shown claim certificate.verdict) certificate
  pub piece : ℕ
  pub values : Vec ℤ Global
  pub says : certificate.verdict ≡ verdicts.Disproved piece values
  pub met : AllMet (obligations (about_with about) (shown claim certificate.verdict) certificate.root certificate.verdict)
  pub names : at.names ≡ p.variables
  pub same : at.values.items ≡ values.items
  pub fails : FailsAt p f (record { location = p.start; values = values.items })
  pub endless : normal f ≡ term → Follows p about certificate.root piece values.items
  pub is_text : IsTextOf wanted p about claim certificate text

-- The property holds at every initial state, or fails at the one that the certificate's verdict names; where its normal form is `term`, the
-- choices lead along an endless run.
pub record TellsClaim (p : System) (f : Property) (about : CaseSystem) (c : Certificate) : Type 0 where
  pub settled : IsSettled p f c.verdict
  pub followed : normal f ≡ term → FollowsFrom p about c.root c.verdict

-- what a verdict says, with this text after it, or memory runs out
abbrev pub SaysVerdict : System → Verdict → List ℕ → Answer → Type 0
SaysVerdict p (verdicts.Proved start) text (answers.Proved certificate) = certificate.items ≡ text
SaysVerdict p (verdicts.Disproved piece values) text (answers.Disproved at certificate) = (at.names ≡ p.variables) × (at.values.items ≡ values.items) × (certificate.items ≡ text)
SaysVerdict p verdict text answers.Memory = Unit {0}
SaysVerdict p verdict text answer = ⊥

-- the answer is that of a certificate
abbrev pub Settles : Wanted → System → Property → CaseSystem → Answer → Type 0
Settles wanted p f about (answers.Proved certificate) = IsShown wanted p f about certificate.items
Settles wanted p f about (answers.Disproved at certificate) = IsRefuted wanted p f about at certificate.items
Settles wanted p f about answers.Memory = Unit {0}
Settles wanted p f about answer = ⊥

-- what proposers offer for some cases
abbrev pub Offers : Type 1
Offers = CaseSystem → List (List Candidate) → Type 0

-- what these proposers offer, where rest is what each says of some cases
abbrev pub offers_of : {A : Type 0} → (A → CaseSystem → Option (List Candidate)) → List A → Offers
offers_of rest proposers about = Gave (λ p. rest p about) proposers

-- the fault of the solver with this reason
abbrev pub of_solver : SystemFault → SolveFault
of_solver (kept.Width basis row column) = solving.Width basis row column
of_solver (kept.Scale basis) = solving.Scale basis
of_solver (kept.Pivots bases) = solving.Pivots bases
of_solver (kept.Size rows columns) = solving.Size rows columns

-- a question of integer points that was not settled, as it is answered
abbrev pub IsUncovered : (CoverFault → Type 0) → Cause → Type 0
IsUncovered Is (Unsolved system e) = (rows : _) × (system ≡ Searched (systems.Rows rows)) × Is (covers.Solve rows (of_solver e))
IsUncovered Is (Spent path) = Is (covers.Splits path)
IsUncovered Is (Composed column) = Is (covers.Wide column)
IsUncovered Is cause = ⊥

-- ---- why it is not known whether every run ends

-- no linear terms rank some cases of the program, and no run that never ends is plain to see
pub record IsOpenEnd (about : CaseSystem) : Type 0 where
  pub stuck : IsStuckAlone about
  pub no_recurrence : HasSimpleRecurrence about → ⊥

-- why no certificate is found: without known rows, in the search for a run that never ends, or under rows that are found
pub data IsEndFault (about : CaseSystem) (Given : List (List Candidate) → Type 0) (budget : Budget) (e : EndFault) : Type 0 where
  alone : IsFirstFault about budget e → IsEndFault about Given budget e
  round : IsStuckAlone about → (f : CoverFault) → e ≡ ends.Cover f → IsRefusal about budget f → IsEndFault about Given budget e
  found : IsOpenEnd about → RefusesFound about Given budget e → IsEndFault about Given budget e

-- some set of a component is without nested terms
abbrev pub HasUnnested : CaseSystem → Type 0
HasUnnested about = (component : ℕ) × (set : List ℕ) × (barriers : List (List ℤ)) × IsUnnested about component set barriers

-- no terms rank the cases that are left under the rows that are found, and it was not settled whether terms are nested
pub record IsNestFault (about : CaseSystem) (Given : List (List Candidate) → Type 0) (budget : Budget) (f : NestFault) : Type 0 where
  pub set : Vec ℕ Global
  pub barriers : Vec (Vec ℤ Global) Global
  pub unranked : IsEndFault about Given budget (ends.Rank set barriers)
  pub refused : RefusesNest about budget f

-- a question of integer points of the search for ranks, or for nested terms, was not settled
abbrev pub IsEndQuestion : CaseSystem → (List (List Candidate) → Type 0) → Budget → CoverFault → Type 0
IsEndQuestion about Given budget f = IsEndFault about Given budget (ends.Cover f) ⊎ IsNestFault about Given budget (nests.Cover f)

-- a system of the search for ranks, or for nested terms, was not settled
abbrev pub IsEndSystem : CaseSystem → (List (List Candidate) → Type 0) → Budget → NamedSystem → SolveFault → Type 0
IsEndSystem about Given budget system e =
    ((name : Name) × (system ≡ Searched name) × IsEndFault about Given budget (ends.Solve name e))
    ⊎ ((name : NestName) × (system ≡ nest_system name) × IsNestFault about Given budget (nests.Solve name e))

abbrev pub IsEndCause : CaseSystem → (List (List Candidate) → Type 0) → Budget → Cause → Type 0
IsEndCause about Given budget (Unsolved system e) = IsEndSystem about Given budget system (of_solver e) ⊎ IsUncovered (IsEndQuestion about Given budget) (Unsolved system e)
IsEndCause about Given budget (Unranked set barriers) = IsEndFault about Given budget (ends.Rank set barriers) × HasUnnested about
IsEndCause about Given budget cause = IsUncovered (IsEndQuestion about Given budget) cause

-- ---- why it is not known whether a run comes to a location

-- the label of the location with the number
abbrev pub IsLabel : System → ℕ → List ℕ → Type 0
IsLabel p l label = slice_get p.locations l ≡ Some label

abbrev pub IsWeakAt : System → ℕ → Vec ℤ Global → Cause → Type 0
IsWeakAt p l point (Weak label q) = IsLabel p l label.items × (q ≡ point)
IsWeakAt p l point cause = ⊥

abbrev pub AreTooManyAt : System → ℕ → ℕ → Cause → Type 0
AreTooManyAt p l count (TooManyPaths label n) = IsLabel p l label.items × (n ≡ count)
AreTooManyAt p l count cause = ⊥

-- the rows are over the variables and inductive, and no integer point meets those at the location
pub record KeepsFrom (about : CaseSystem) (l : ℕ) (list : List Candidate) : Type 0 where
  pub over : AreOver about.variables list
  pub inductive : IsInductive about list
  pub empty : HaveNoPoint about.variables (rows_at l list)

-- the rows that were found exclude the location, and that they do was not shown by a certificate
pub record IsUnshown (about : CaseSystem) (Given : List (List Candidate) → Type 0) (budget : Budget) (l : ℕ) (f : CoverFault) : Type 0 where
  pub list : List Candidate
  pub known : IsKnown about Given list
  pub excludes : HasNoPoint about l list
  pub refused : RefusesSafety about list l budget f

abbrev pub IsSearchFault : CaseSystem → (List (List Candidate) → Type 0) → Budget → ℕ → CoverFault → Type 0
IsSearchFault about Given budget l f = IsUnsearched about Given l budget (searches.Cover f) ⊎ IsUnshown about Given budget l f

-- a run comes to the location, and a value on it or a line of its certificate is too wide, the first one at this column
pub record IsWideRun (about : CaseSystem) (l column : ℕ) : Type 0 where
  pub run : Found
  pub to : run.location ≡ l
  pub found : IsFoundRun about run
  pub wide : IsRunFault about run (points.Wide column)

abbrev pub IsSafetyCause : System → CaseSystem → (List (List Candidate) → Type 0) → Budget → ℕ → Cause → Type 0
IsSafetyCause p about Given budget l (Weak label point) = IsLabel p l label.items × IsUnsearched about Given l budget (searches.Invariant point)
IsSafetyCause p about Given budget l (TooManyPaths label count) = IsLabel p l label.items × ((point : Vec ℤ Global) × IsUnsearched about Given l budget (searches.Paths count point))
IsSafetyCause p about Given budget l (Composed column) = IsSearchFault about Given budget l (covers.Wide column) ⊎ IsWideRun about l column
IsSafetyCause p about Given budget l cause = IsUncovered (IsSearchFault about Given budget l) cause

-- ---- why it is not known whether another formula holds

-- the property is neither termination nor the safety of a location
pub record IsOther (about : CaseSystem) (f : Property) : Type 0 where
  pub not_ends : normal f ≡ term → ⊥
  pub not_safety : (l : ℕ) → l < about.locations → normal f ≡ never_at l → ⊥

-- the label of the location, where there is one with the number
abbrev pub IsLabelAt : System → ℕ → List ℕ → Type 0
IsLabelAt p l label = l < length p.locations → IsLabel p l label

abbrev pub AreTooManyPieces : System → ℕ → ℕ → Cause → Type 0
AreTooManyPieces p l count (TooManyPieces label n) = IsLabelAt p l label.items × (n ≡ count)
AreTooManyPieces p l count cause = ⊥

-- the case with the number has a draw
pub record IsDrawnAt (about : CaseSystem) (number : ℕ) : Type 0 where
  pub taken : LinearCase
  pub there : slice_get about.cases number ≡ Some taken
  pub draws : 0 < taken.draws

-- no case has one
abbrev pub NoneDraws : CaseSystem → Type 0
NoneDraws about = (number : ℕ) (c : LinearCase) → slice_get about.cases number ≡ Some c → c.draws ≡ 0

-- no certificate of the property, or of its negation, over the variables of the program was made, for this reason
pub record IsUnprovedOf (about : CaseSystem) (f : Property) (budget : Budget) (why : Unproved) : Type 0 where
  pub claim : Claim
  pub is_claim : IsClaim claim f
  pub variables : claim_variables claim ≡ about.variables
  pub shows : IsUnproved about claim budget why

-- a call on regions that are made of the formula's, or a question of them, has the fault
abbrev pub IsEither : CaseSystem → Property → Budget → RegionFault → CoverFault → Type 0
IsEither about f budget region cover =
    IsUnprovedOf about f budget (Refused (faults.Region region)) ⊎ IsUnprovedOf about f budget (Refused (faults.Cover cover))

-- it is a system of rows, of such a call or question; or one of the search for ranks of the program
abbrev pub IsUnsolved : CaseSystem → Property → Budget → NamedSystem → SolveFault → Type 0
IsUnsolved about f budget system e =
    ((rows : _) × (system ≡ Searched (systems.Rows rows)) × IsEither about f budget (regions.Solve rows e) (covers.Solve rows e))
    ⊎ ((name : Name) × (system ≡ Searched name) × IsUnprovedOf about f budget (Refused (faults.Rank name e)))

-- where no case has a draw, `count` is above the limit on pieces, and no more than each size of the property
abbrev pub IsWithinSize : CaseSystem → Property → Budget → ℕ → Type 0
IsWithinSize about f budget count = HasNoDraws about → (n : ℕ) → IsSize about f n → (budget.disjuncts < count) × (count ≤ n)

-- `count` pieces of a region of the formula's are made at the location
abbrev pub AreTooMany : CaseSystem → Property → Budget → ℕ → ℕ → Type 0
AreTooMany about f budget l count =
    IsUnprovedOf about f budget (Refused (faults.Region (regions.Disjuncts l count))) × IsWithinSize about f budget count

abbrev pub IsFormulaCause : System → CaseSystem → Property → Budget → Cause → Type 0
IsFormulaCause p about f budget (Unsolved system e) = IsUnsolved about f budget system (of_solver e)
IsFormulaCause p about f budget (Spent path) = IsUnprovedOf about f budget (Refused (faults.Cover (covers.Splits path)))
IsFormulaCause p about f budget (Composed column) = IsEither about f budget (regions.Wide column) (covers.Wide column)
IsFormulaCause p about f budget (TooManyPieces label count) = (l : ℕ) × IsLabelAt p l label.items × AreTooMany about f budget l count
IsFormulaCause p about f budget (Drawn number) = IsDrawnAt about number × IsUnprovedOf about f budget (Left Inexact)
IsFormulaCause p about f budget (Unsettled place) = IsUnprovedOf about f budget (Left (Open place))
IsFormulaCause p about f budget (WideComparison column) = ((place : ℕ) × IsUnprovedOf about f budget (Wide place)) × IsWideComparison about.variables f column
IsFormulaCause p about f budget cause = ⊥

-- why nothing is known of the property
pub data IsCause (offers : Offers) (task : Task) (p : System) (f : Property) (about : CaseSystem) (cause : Cause) : Type 0 where
  of_ends : normal f ≡ term → IsEndCause about (offers about) (budget_of task.limits) cause → IsCause offers task p f about cause
  of_safety : (l : ℕ) → normal f ≡ never_at l → IsSafetyCause p about (offers about) (budget_of task.limits) l cause → IsCause offers task p f about cause
  of_formula : IsOther about f → IsFormulaCause p about f (budget_of task.limits) cause → IsCause offers task p f about cause

-- What the answer of a search says.
abbrev pub Finds : Offers → Task → System → Property → CaseSystem → Answer → Type 0
Finds offers task p f about (answers.Unknown cause) = IsCause offers task p f about cause
Finds offers task p f about answer = Settles task.wanted p f about answer
