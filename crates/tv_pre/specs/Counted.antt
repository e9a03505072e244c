-- How many pieces a refusal reports, where no case has a draw.
use Rattle.std.specs.Prelude.{◌≡◌, ℕ, ◌+◌, ◌*◌, ◌≤◌, max, List, [], ◌∷◌, length, map}
use Rattle.tv_formula.specs.declared.tree.Path.{Path}
use Rattle.tv_formula.specs.Parts.{HasParts, AllHaveParts}
use Rattle.tv_formula.specs.Properties.{Property, Properties}
use Rattle.tv_linear.specs.declared.region.Piece.{Piece}
use Rattle.tv_linear.specs.declared.region.Region.{Region}
use Rattle.tv_farkas.specs.declared.budget.Budget.{Budget}
use Rattle.tv_farkas.specs.declared.fault.CoverFault.{CoverFault}
use Rattle.tv_cases.specs.Comparisons.{comparison_lists}
use Rattle.tv_cases.specs.LinearCases.{CaseSystem}
use Rattle.tv_cert.specs.Statements.{Statement, each_of, Statements, stated, stated_all}
use Rattle.tv_known.specs.Cycles.{IsLastRound}
use Rattle.tv_known.specs.Sizes.{some_count, next_count, staying_count, fix_count, greatest_count, greatest_counts}
use Rattle.tv_region.specs.Regions.{lists_at, count_at}
use Rattle.tv_region.specs.StepRegions.{HasNoDraws}
use Rattle.tv_rounds.specs.Counts.{IsFaultWithin}
use Rattle.tv_pre.specs.declared.fault.PreFault.{PreFault}
use Rattle.tv_pre.specs.declared.fault.PreFault.TheVariants as faults
use Rattle.tv_pre.specs.declared.ranked_along.RankedAlong.{RankedAlong}
use Rattle.tv_pre.specs.declared.ranked_along.RankedAlong.TheVariants.{Everywhere, Unsettled, Untold}
use Rattle.tv_pre.specs.declared.sides.Sides.{Sides}
use Rattle.tv_pre.specs.Along.{arguments}
use Rattle.tv_pre.specs.Built.{AreBuilt, IsAsked}
use Rattle.tv_pre.specs.Finding.{steps_back, all_steps_back}
use Rattle.tv_pre.specs.Parts.{joined_pieces}
use Rattle.tv_pre.specs.Questions.{Question, lies, steps, chooses, Refuses}
use Rattle.tv_pre.specs.Sized.{hold_count, end_count, AreCounted}

-- the refusal is one of a call on regions, or for want of memory; one for too many pieces reports no more of them than this number at its
-- location
abbrev pub IsWithin : (ℕ → ℕ) → PreFault → Type 0
IsWithin bound (faults.Region fault) = IsFaultWithin bound fault
IsWithin bound (faults.Cover fault) = ⊥
IsWithin bound (faults.Rank system fault) = ⊥
IsWithin bound faults.Memory = Unit {0}

-- ---- questions

-- the pieces that are the targets of the question
abbrev pub into_of : Question → List Piece
into_of (lies q into) = into
into_of (steps q c into) = into
into_of (chooses q stop into) = into

-- at each location it has no more targets than this number
abbrev pub IsFewInto : (ℕ → ℕ) → Question → Type 0
IsFewInto bound a = (l : ℕ) → length (lists_at l (into_of a)) ≤ bound l

-- a question that is asked so, with no more targets than this number at each location, is refused so
pub record IsFewRefused (about : CaseSystem) (budget : Budget) (asks : Question → Type 0) (bound : ℕ → ℕ) (fault : CoverFault) : Type 0 where
  pub question : Question
  pub asked : asks question
  pub few : IsFewInto bound question
  pub refuses : Refuses about budget question fault

-- a refusal for too many pieces reports no more of them than this number at its location, and one of a question is of one that is asked so,
-- with no more targets than this number at each location
abbrev pub IsWithinFew : CaseSystem → Budget → (Question → Type 0) → (ℕ → ℕ) → PreFault → Type 0
IsWithinFew about budget asks bound (faults.Region fault) = IsFaultWithin bound fault
IsWithinFew about budget asks bound (faults.Cover fault) = IsFewRefused about budget asks bound fault
IsWithinFew about budget asks bound (faults.Rank system fault) = Unit {0}
IsWithinFew about budget asks bound faults.Memory = Unit {0}

-- ---- the formula

-- Whatever formula the statement is of, if each conjunction and disjunction in it has a part, the refusal reports no more pieces than are
-- counted for the formula or for one of its subformulas at the location, with the rounds of its fixpoints up to the last that the size takes;
-- or it is of a question of the formula's that has no more targets at each location. Rounds are made up to `most`.
abbrev pub IsCountedFor : CaseSystem → Budget → ℕ → Statement → PreFault → Type 0
IsCountedFor about budget most s fault =
    HasNoDraws about → (last : ℕ) → IsLastRound about 9 last → (f : Property) → HasParts f → s ≡ stated (comparison_lists about.variables) f →
    IsWithinFew about budget (IsAsked about s (steps_back most s)) (greatest_count about.cases last f) fault

-- the same of the arguments of a formula
abbrev pub AreCountedFor : CaseSystem → Budget → ℕ → Statements → PreFault → Type 0
AreCountedFor about budget most ss fault =
    HasNoDraws about → (last : ℕ) → IsLastRound about 9 last → (fs : Properties) → AllHaveParts fs →
    ss ≡ stated_all (comparison_lists about.variables) fs →
    IsWithinFew about budget (IsAsked about (each_of ss) (all_steps_back most ss)) (greatest_counts about.cases last fs) fault

-- how many pieces each of the regions has at the location, or 1 where it has none
abbrev pub some_counts_at : ℕ → List Region → List ℕ
some_counts_at l regions = map (λ r. max 1 (count_at l r)) regions

-- ---- going back

-- no more pieces than are counted for the states before a region that has at most b l pieces at each location l
abbrev pub IsCountedBefore : CaseSystem → Path → Region → PreFault → Type 0
IsCountedBefore about path into fault =
    HasNoDraws about → (b : ℕ → ℕ) → ((l : ℕ) → count_at l into ≤ b l) → IsWithin (next_count about.cases path b) fault

-- the same of those that stay in such a region
abbrev pub IsCountedStaying : CaseSystem → Path → Region → PreFault → Type 0
IsCountedStaying about path into fault =
    HasNoDraws about → (b : ℕ → ℕ) → ((l : ℕ) → count_at l into ≤ b l) → IsWithin (staying_count about.cases path b) fault

-- ---- fixpoints

-- such numbers of the arguments that are at least 1
pub record AreFullyCounted (sides : Sides) (f g : ℕ → ℕ) : Type 0 where
  pub counts : AreCounted sides f g
  pub some_first : (l : ℕ) → 1 ≤ f l
  pub some_second : (l : ℕ) → 1 ≤ g l

-- no more pieces than are counted for the states at the end
abbrev pub IsCountedEnd : Sides → PreFault → Type 0
IsCountedEnd sides fault = (f g : ℕ → ℕ) → AreCounted sides f g → IsWithin (end_count sides.shape f g) fault

-- for those on the way that stay in a region with at most b l pieces at each location l
abbrev pub IsCountedOnward : CaseSystem → Sides → Region → PreFault → Type 0
IsCountedOnward about sides into fault =
    HasNoDraws about → (f g b : ℕ → ℕ) → AreFullyCounted sides f g → ((l : ℕ) → count_at l into ≤ b l) →
    IsWithin (λ l. hold_count sides.shape f g l * staying_count about.cases sides.path b l) fault

-- for those on the way with a step
abbrev pub IsCountedGoing : CaseSystem → Sides → PreFault → Type 0
IsCountedGoing about sides fault =
    HasNoDraws about → (f g : ℕ → ℕ) → AreFullyCounted sides f g →
    IsWithin (λ l. hold_count sides.shape f g l * some_count about.cases (λ k. 1) l) fault

-- The question is one of whatever formula the regions of the arguments are made for, with k more steps back than these.
abbrev pub IsAskedAlong : CaseSystem → ℕ → Sides → Question → Type 0
IsAskedAlong about k sides a = (s : Statement) (h : ℕ) → AreBuilt about s h (arguments sides) → IsAsked about s (k + h) a

-- and for the fixpoint; or the refusal is of such a question with no more targets
abbrev pub IsCountedAlong : CaseSystem → Budget → ℕ → Sides → PreFault → Type 0
IsCountedAlong about budget k sides fault =
    HasNoDraws about → (last : ℕ) → IsLastRound about 9 last → (f g : ℕ → ℕ) → AreFullyCounted sides f g →
    IsWithinFew about budget (IsAskedAlong about k sides) (fix_count about.cases last sides.path sides.shape f g) fault

-- the question is one of whatever formula the two regions are made for
abbrev pub IsAskedBetween : CaseSystem → Region → Region → Question → Type 0
IsAskedBetween about first second a = (s : Statement) (h : ℕ) → AreBuilt about s h (first ∷ second ∷ []) → IsAsked about s h a

-- the refusal is of such a question whose targets are the pieces of both
abbrev pub IsCountedBetween : CaseSystem → Budget → Region → Region → PreFault → Type 0
IsCountedBetween about budget first second fault =
    IsWithinFew about budget (IsAskedBetween about first second) (λ l. length (lists_at l (joined_pieces (first ∷ second ∷ [])))) fault

-- why it was not settled whether the fixpoint holds everywhere
abbrev pub IsUntoldCount : CaseSystem → Budget → Sides → RankedAlong → Type 0
IsUntoldCount about budget sides (Everywhere part) = Unit {0}
IsUntoldCount about budget sides (Unsettled nodes region) = Unit {0}
IsUntoldCount about budget sides (Untold nodes region fault) = (most : ℕ) → IsCountedAlong about budget (most + 2) sides fault
