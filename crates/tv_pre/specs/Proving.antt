-- What came of a claim at the start, and why there is no certificate.
use Rattle.std.specs.Prelude.{◌≡◌, ◌⊎◌, ℕ, List, [], ℤ, Option, None, Some, IfSome, IsTrue, false}
use Rattle.tv_formula.specs.Formulas.{property_of}
use Rattle.tv_formula.specs.Forms.{is_local}
use Rattle.tv_formula.specs.Properties.{Property}
use Rattle.tv_farkas.specs.declared.budget.Budget.{Budget}
use Rattle.tv_farkas.specs.declared.fault.CoverFault.{CoverFault}
use Rattle.tv_cases.specs.LinearCases.{CaseSystem}
use Rattle.tv_cert.specs.declared.claim.Claim.{Claim}
use Rattle.tv_cert.specs.AimViews.{aim_states}
use Rattle.tv_cert.specs.Claims.{IsClaim}
use Rattle.tv_cert.specs.Statements.{Statement}
use Rattle.tv_known.specs.Cycles.{IsLastRound}
use Rattle.tv_known.specs.Known.{IsDecided}
use Rattle.tv_known.specs.Subformulas.{subformulas}
use Rattle.tv_cover.specs.Covering.{IsHole}
use Rattle.tv_region.specs.Regions.{IsRegion, lists_at}
use Rattle.tv_lexrank.specs.Certified.{IsProofOf}
use Rattle.tv_points.specs.Nodes.{IsDisproof}
use Rattle.tv_linear.specs.declared.region.Piece.{Piece}
use Rattle.tv_pre.specs.declared.gap.Gap.{Gap}
use Rattle.tv_pre.specs.declared.outcome.Found.{Found}
use Rattle.tv_pre.specs.declared.fault.PreFault.{PreFault}
use Rattle.tv_pre.specs.declared.fault.PreFault.TheVariants as faults
use Rattle.tv_pre.specs.declared.deciding.Tried.{Tried}
use Rattle.tv_pre.specs.declared.deciding.Tried.TheVariants as tried
use Rattle.tv_pre.specs.declared.deciding.Unproved.{Unproved}
use Rattle.tv_pre.specs.declared.deciding.Unproved.TheVariants as unproved
use Rattle.tv_pre.specs.Built.{IsBuilt, IsAsked, IsPreFault}
use Rattle.tv_pre.specs.Counted.{IsCountedFor}
use Rattle.tv_pre.specs.Finding.{IsGapOf, first_of, IsPartFor, IsFullFor, steps_back, size, AreAtomsOfDifferences, IsOpenAt, IsGapFor}
use Rattle.tv_pre.specs.Full.{HasRows}
use Rattle.tv_pre.specs.KnownStates.{IsKnownFor}
use Rattle.tv_region.specs.Differences.{AreOfDifferences}
use Rattle.tv_region.specs.StepRegions.{HasNoDraws}
use Rattle.tv_pre.specs.declared.gap.Gap.TheVariants.{Inexact, Open}
use Rattle.tv_pre.specs.Wide.{IsWideAt}
use Rattle.tv_pre.specs.Questions.{Question, IsRefusal}
use Rattle.tv_pre.specs.Sized.{IsFewFor}
use Rattle.tv_pre.specs.Starting.{HasNoStart, AsksStart, AsksEmpty}

-- what was found of the formula that the statement is of, whatever the last round is
pub record IsFoundOf (about : CaseSystem) (s : Statement) (found : Found) : Type 0 where
  pub over : IsRegion about.variables about.locations found.part.region
  pub shows : IsPartFor about s found.part.region found.part.node
  pub built : (last : ℕ) → IsLastRound about 8 last → IsBuilt about s (steps_back last s) found.part.region
  pub size : found.size ≡ size s
  pub gap : IfSome found.gap (IsGapOf about)
  pub tells : (last : ℕ) → IsLastRound about 8 last → IfSome found.gap (IsGapFor about last s)
  pub full : found.gap ≡ None → IsFullFor about s found.part.region
  pub known : (last : ℕ) → IsLastRound about 8 last → IsKnownFor about last false s found.part.region
  pub bounded : IsFewFor about s found.part.region

abbrev pub pieces_of : Found → List Piece
pieces_of found = found.part.region.pieces.items

-- ---- what the states at the start tell

-- values at the start lie in no piece of what was found
pub record IsProofLeft (about : CaseSystem) (s : Statement) (gap : Option Gap) : Type 0 where
  pub found : Found
  pub is : IsFoundOf about s found
  pub same : gap ≡ found.gap
  pub values : List ℤ
  pub outside : IsHole about.variables (lists_at about.start (pieces_of found)) [] values

-- no values at the start lie in a piece of what was found
pub record IsDisproofLeft (about : CaseSystem) (s : Statement) (gap : Option Gap) : Type 0 where
  pub found : Found
  pub is : IsFoundOf about s found
  pub same : gap ≡ found.gap
  pub outside : HasNoStart about (pieces_of found)

abbrev pub IsProofTried : CaseSystem → Claim → Tried → Type 0
IsProofTried about claim (tried.Settled c) = IsProofOf about (property_of claim.proved) c
IsProofTried about claim (tried.Left gap) = IsProofLeft about (aim_states claim.proved_aim) gap

abbrev pub IsDisproofTried : CaseSystem → Claim → Tried → Type 0
IsDisproofTried about claim (tried.Settled c) = (values : List ℤ) × IsDisproof about (property_of claim.denied) values c
IsDisproofTried about claim (tried.Left gap) = IsDisproofLeft about (aim_states claim.denied_aim) gap

-- ---- refusals

-- A call on regions, or a question of them, was refused on the way to what was found; or a question of the start was, about what was found.
-- Where no case has a draw, the calls and questions of the way are no larger than is counted for the formula.
pub data IsRefusedWith (about : CaseSystem) (s : Statement) (budget : Budget) (asks : List Piece → Question → Type 0) : PreFault → Type 0 where
  of_formula : (fault : PreFault) → ((last : ℕ) → IsLastRound about 8 last → IsPreFault about s budget (steps_back last s) fault) →
      ((last : ℕ) → IsLastRound about 8 last → IsCountedFor about budget last s fault) → IsRefusedWith about s budget asks fault
  of_start : (found : Found) (fault : CoverFault) → IsFoundOf about s found → IsRefusal about budget (asks (pieces_of found)) fault → IsRefusedWith about s budget asks (faults.Cover fault)

-- the question is one of the formula, with rounds up to the last; or one of the start, about what was found
pub data IsAskedOf (about : CaseSystem) (s : Statement) (asks : List Piece → Question → Type 0) : Question → Type 0 where
  of_way : (last : ℕ) (a : Question) → IsLastRound about 8 last → IsAsked about s (steps_back last s) a → IsAskedOf about s asks a
  of_found : (found : Found) (a : Question) → IsFoundOf about s found → asks (pieces_of found) a → IsAskedOf about s asks a

-- the question is one of the claim: of its formula or of its negation
abbrev pub IsAskedOfClaim : CaseSystem → Claim → Question → Type 0
IsAskedOfClaim about claim a =
    IsAskedOf about (aim_states claim.proved_aim) (AsksStart about) a ⊎ IsAskedOf about (aim_states claim.denied_aim) (AsksEmpty about) a

-- of the formula, whether all states at the start lie in its region
abbrev pub IsProofFault : CaseSystem → Claim → Budget → PreFault → Type 0
IsProofFault about claim budget fault = IsRefusedWith about (aim_states claim.proved_aim) budget (AsksStart about) fault

-- of its negation, whether a piece at the start has a state
abbrev pub IsDisproofFault : CaseSystem → Claim → Budget → PreFault → Type 0
IsDisproofFault about claim budget fault = IsRefusedWith about (aim_states claim.denied_aim) budget (AsksEmpty about) fault

-- ---- why there is no certificate

-- Neither what was found of the formula nor what was found of its negation settles the claim; these are the gaps of the two.
pub record IsLeft (about : CaseSystem) (claim : Claim) (first second : Option Gap) : Type 0 where
  pub proof : IsProofLeft about (aim_states claim.proved_aim) first
  pub disproof : IsDisproofLeft about (aim_states claim.denied_aim) second

-- the subformula with this number, of the normal form or of the negation, is a comparison that has no rows
abbrev pub IsWideIn : CaseSystem → Claim → ℕ → Type 0
IsWideIn about claim place =
    IsWideAt about.variables (subformulas (property_of claim.proved)) place ⊎ IsWideAt about.variables (subformulas (property_of claim.denied)) place

-- each comparison of the normal form and of the negation has rows
abbrev pub ClaimHasRows : CaseSystem → Claim → Type 0
ClaimHasRows about claim = HasRows about.variables (property_of claim.proved) × HasRows about.variables (property_of claim.denied)

-- no case has a draw, or the cases and the rows of the comparisons are of differences
abbrev pub IsTameClaim : CaseSystem → Claim → Type 0
IsTameClaim about claim =
    HasNoDraws about ⊎ (AreOfDifferences about × AreAtomsOfDifferences (aim_states claim.proved_aim) × AreAtomsOfDifferences (aim_states claim.denied_aim))

-- the property of the claim has a next state, a fixpoint or termination
abbrev pub IsMovingClaim : Claim → Type 0
IsMovingClaim claim = (f : Property) → IsClaim claim f → IsTrue (is_local f) → ⊥

-- the rounds do not tell of the start whether the property of the claim holds
abbrev pub IsUndecidedClaim : CaseSystem → Claim → Type 0
IsUndecidedClaim about claim = (f : Property) → IsClaim claim f → IsDecided about f → ⊥

-- the program is tame for the claim, which is undecided, and the last round does not settle the subformula with the number, of the normal
-- form or of the negation
pub record IsOpenClaim (about : CaseSystem) (claim : Claim) (last place : ℕ) : Type 0 where
  pub tame : IsTameClaim about claim
  pub undecided : IsUndecidedClaim about claim
  pub unsettled : IsOpenAt about last (subformulas (property_of claim.proved)) place ⊎ IsOpenAt about last (subformulas (property_of claim.denied)) place

-- the program is not tame for the claim, which is not of one state; or a subformula is open
abbrev pub IsGapOfClaim : CaseSystem → Claim → ℕ → Gap → Type 0
IsGapOfClaim about claim last Inexact = (IsTameClaim about claim → ⊥) × IsMovingClaim claim
IsGapOfClaim about claim last (Open place) = IsOpenClaim about claim last place

-- where the program is tame for the claim, the second gap is the first one; elsewhere it is that of the draws
abbrev pub IsReported : CaseSystem → Claim → Gap → Gap → Type 0
IsReported about claim gap reported =
    (IsTameClaim about claim × (reported ≡ gap)) ⊎ ((IsTameClaim about claim → ⊥) × (reported ≡ Inexact))

-- The gap is the first of the two, or in place of it that of the draws where the program is not tame for the claim; and it is so what it
-- says.
pub record IsLeftBy (about : CaseSystem) (claim : Claim) (gap : Gap) : Type 0 where
  pub first : Option Gap
  pub second : Option Gap
  pub left : IsLeft about claim first second
  pub known : Gap
  pub is_first : Some known ≡ first_of first second
  pub reported : IsReported about claim known gap
  pub have_rows : ClaimHasRows about claim
  pub tells : (last : ℕ) → IsLastRound about 8 last → IsGapOfClaim about claim last gap

-- neither side settles the claim, whatever their gaps
abbrev pub IsSomehowLeft : CaseSystem → Claim → Type 0
IsSomehowLeft about claim = (first : Option Gap) × (second : Option Gap) × IsLeft about claim first second

abbrev pub IsUnproved : CaseSystem → Claim → Budget → Unproved → Type 0
IsUnproved about claim budget (unproved.Refused fault) = IsProofFault about claim budget fault ⊎ IsDisproofFault about claim budget fault
IsUnproved about claim budget (unproved.Left gap) = IsGapOf about gap × IsLeftBy about claim gap
IsUnproved about claim budget (unproved.Wide place) = IsSomehowLeft about claim × IsWideIn about claim place
