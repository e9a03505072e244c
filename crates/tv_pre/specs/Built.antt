-- Regions that are made of the atoms of a formula, and what a refusal shows of them.
use Rattle.std.specs.Prelude.{◌≡◌, ◌⊎◌, ◌==◌, ℕ, suc, ◌+◌, ◌<◌, ◌≤◌, List, [], length, Contains, Bool, not}
use Rattle.tv_linear.specs.Linear.{Linear}
use Rattle.tv_linear.specs.declared.region.Piece.{Piece}
use Rattle.tv_linear.specs.declared.region.Region.{Region}
use Rattle.tv_cases.specs.LinearCases.{LinearCase, CaseSystem}
use Rattle.tv_cert.specs.Obligations.{truth_targets}
use Rattle.tv_cert.specs.Statements.{Statement, rows, here, elsewhere, ends, never_ends, each_of, one_of, after, along, unsaid, Statements, no_statement, statement}
use Rattle.tv_copy.specs.SameRegions.{SameRegion}
use Rattle.tv_farkas.specs.declared.budget.Budget.{Budget}
use Rattle.tv_farkas.specs.declared.fault.CoverFault.{CoverFault}
use Rattle.tv_farkas.specs.declared.fault.CoverFault.TheVariants as covers
use Rattle.tv_region.specs.Regions.{IsRegion, lists_at}
use Rattle.tv_region.specs.Algebra.{IsBoth, IsEither, IsRest, IsBothFault, IsEitherFault, IsRestFault}
use Rattle.tv_region.specs.StepRegions.{IsBefore, IsBeforeAll, IsAnyFault, IsEveryFault}
use Rattle.tv_region.specs.declared.fault.RegionFault.{RegionFault}
use Rattle.tv_region.specs.declared.fault.RegionFault.TheVariants as regions
use Rattle.tv_rounds.specs.Calls.{IsNowhere}
use Rattle.tv_pre.specs.declared.fault.PreFault.{PreFault}
use Rattle.tv_pre.specs.declared.fault.PreFault.TheVariants as faults
use Rattle.tv_pre.specs.Fixed.{IsJoined}
use Rattle.tv_pre.specs.Growing.{IsEverywhere}
use Rattle.tv_pre.specs.Parts.{joined_pieces}
use Rattle.tv_pre.specs.Questions.{Question, lies, steps, chooses, Refuses}
use Rattle.tv_pre.specs.Unserved.{IsRankingRefused}

-- ---- atoms
abbrev mutual
  -- the statement is the atom, or has it in an argument
  pub HasAtom : Statement → Statement → Type 0
  HasAtom (rows lists) a = a ≡ rows lists
  HasAtom (here l) a = a ≡ here l
  HasAtom (elsewhere l) a = a ≡ elsewhere l
  HasAtom ends a = ⊥
  HasAtom never_ends a = ⊥
  HasAtom (each_of ss) a = SomeHasAtom ss a
  HasAtom (one_of ss) a = SomeHasAtom ss a
  HasAtom (after path s) a = HasAtom s a
  HasAtom (along path shape s t) a = HasAtom s a ⊎ HasAtom t a
  HasAtom unsaid a = ⊥

  pub SomeHasAtom : Statements → Statement → Type 0
  SomeHasAtom no_statement a = ⊥
  SomeHasAtom (statement s ss) a = HasAtom s a ⊎ SomeHasAtom ss a

-- at a location where the atom holds, one of these lists of rows is met
abbrev pub atom_lists : Statement → ℕ → List (List Linear)
atom_lists (rows lists) l = lists
atom_lists (here k) l = truth_targets (l == k)
atom_lists (elsewhere k) l = truth_targets (not (l == k))
atom_lists ends l = []
atom_lists never_ends l = []
atom_lists (each_of ss) l = []
atom_lists (one_of ss) l = []
atom_lists (after path s) l = []
atom_lists (along path shape s t) l = []
atom_lists unsaid l = []

-- the region has at each location the lists of the atom
pub record IsAtomRegion (about : CaseSystem) (a : Statement) (region : Region) : Type 0 where
  pub over : IsRegion about.variables about.locations region
  pub lists : (l : ℕ) → l < about.locations → lists_at l region.pieces.items ≡ atom_lists a l

-- ---- regions

-- The region is that of an atom of the statement, or has all states or none, or is a copy of such a region, or a call on such regions gives
-- it, or it has the pieces of the layers of a fixpoint in order. On the way to it at most h times a step is gone back; joining layers counts
-- as one step more, and there are at most two more of them than steps before.
pub data IsBuilt (about : CaseSystem) (s : Statement) : ℕ → Region → Type 0 where
  of_atom : (h : ℕ) (a : Statement) (region : Region) → HasAtom s a → IsAtomRegion about a region → IsBuilt about s h region
  of_everywhere : (h : ℕ) (region : Region) → IsEverywhere about region → IsBuilt about s h region
  of_nowhere : (h : ℕ) (region : Region) → IsNowhere about region → IsBuilt about s h region
  of_joined : (h : ℕ) (regions : List Region) (region : Region) → ((r : Region) → Contains regions r → IsBuilt about s h r) →
      length regions ≤ h + 2 → IsJoined about regions region → IsBuilt about s (suc h) region
  of_same : (h : ℕ) (a region : Region) → IsBuilt about s h a → SameRegion a region → IsBuilt about s h region
  of_both : (h : ℕ) (a b region : Region) → IsBuilt about s h a → IsBuilt about s h b → IsBoth a b region → IsBuilt about s h region
  of_either : (h : ℕ) (a b region : Region) → IsBuilt about s h a → IsBuilt about s h b → IsEither a b region → IsBuilt about s h region
  of_rest : (h : ℕ) (a region : Region) → IsBuilt about s h a → IsRest a region → IsBuilt about s h region
  of_any : (h : ℕ) (a region : Region) → IsBuilt about s h a → IsBefore about a region → IsBuilt about s (suc h) region
  of_every : (h : ℕ) (a region : Region) → IsBuilt about s h a → IsBeforeAll about a region → IsBuilt about s (suc h) region

-- each of the regions is built so
abbrev pub AreBuilt : CaseSystem → Statement → ℕ → List Region → Type 0
AreBuilt about s h regions = (r : Region) → Contains regions r → IsBuilt about s h r

-- the pieces are those of such regions, in order
pub record ArePiecesBuilt (about : CaseSystem) (s : Statement) (h : ℕ) (pieces : List Piece) : Type 0 where
  pub regions : List Region
  pub built : AreBuilt about s h regions
  pub whole : pieces ≡ joined_pieces regions

-- ---- refusals

-- a call on such regions has the fault; with it at most h times a step is gone back
pub data IsRefusedRegion (about : CaseSystem) (s : Statement) (budget : Budget) : ℕ → RegionFault → Type 0 where
  in_both : (h : ℕ) (a b : Region) (fault : RegionFault) → IsBuilt about s h a → IsBuilt about s h b → IsBothFault a b budget fault →
      IsRefusedRegion about s budget h fault
  in_either : (h : ℕ) (a b : Region) (fault : RegionFault) → IsBuilt about s h a → IsBuilt about s h b → IsEitherFault a b budget fault →
      IsRefusedRegion about s budget h fault
  in_rest : (h : ℕ) (a : Region) (fault : RegionFault) → IsBuilt about s h a → IsRestFault a budget fault → IsRefusedRegion about s budget h fault
  in_any : (h : ℕ) (a : Region) (fault : RegionFault) → IsBuilt about s h a → IsAnyFault about a budget fault →
      IsRefusedRegion about s budget (suc h) fault
  in_every : (h : ℕ) (a : Region) (fault : RegionFault) → IsBuilt about s h a → IsEveryFault about a budget fault →
      IsRefusedRegion about s budget (suc h) fault

-- The question is of a piece of such regions and of the pieces of others; where it is of steps, a step is gone back with it.
pub data IsAsked (about : CaseSystem) (s : Statement) : ℕ → Question → Type 0 where
  of_place : (h : ℕ) (own into : List Piece) (q : Piece) → ArePiecesBuilt about s h own → Contains own q → ArePiecesBuilt about s h into →
      IsAsked about s h (lies q into)
  of_steps : (h : ℕ) (own into : List Piece) (q : Piece) (c : LinearCase) → ArePiecesBuilt about s h own → Contains own q →
      ArePiecesBuilt about s h into →
      Contains about.cases c → c.from ≡ q.location → IsAsked about s (suc h) (steps q c into)
  of_choice : (h : ℕ) (own into : List Piece) (q : Piece) (stop : Bool) → ArePiecesBuilt about s h own → Contains own q →
      ArePiecesBuilt about s h into →
      IsAsked about s (suc h) (chooses q stop into)

-- such a question is refused so
pub record IsRefusedQuestion (about : CaseSystem) (s : Statement) (budget : Budget) (h : ℕ) (fault : CoverFault) : Type 0 where
  pub question : Question
  pub asked : IsAsked about s h question
  pub refuses : Refuses about budget question fault

-- what a refusal shows
abbrev pub IsPreFault : CaseSystem → Statement → Budget → ℕ → PreFault → Type 0
IsPreFault about s budget h (faults.Region fault) = IsRefusedRegion about s budget h fault × (fault ≡ regions.Memory → ⊥)
IsPreFault about s budget h (faults.Cover fault) = IsRefusedQuestion about s budget h fault × (fault ≡ covers.Memory → ⊥)
IsPreFault about s budget h (faults.Rank system fault) = IsRankingRefused about budget.pivots system fault
IsPreFault about s budget h faults.Memory = Unit {0}

-- ---- what is made of given regions

-- whatever formula the regions are built for, the region is too, with k more steps back
abbrev pub IsBuiltOf : CaseSystem → ℕ → List Region → Region → Type 0
IsBuiltOf about k regions region = (s : Statement) (h : ℕ) → AreBuilt about s h regions → IsBuilt about s (k + h) region

-- and the fault is one of such regions
abbrev pub IsFaultOf : CaseSystem → Budget → ℕ → List Region → PreFault → Type 0
IsFaultOf about budget k regions fault = (s : Statement) (h : ℕ) → AreBuilt about s h regions → IsPreFault about s budget (k + h) fault
