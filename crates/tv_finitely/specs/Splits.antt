-- A program that is split by a property of its states: its cases, and which of them lead to a state where the property holds.
use Rattle.std.specs.Prelude.{◌≡◌, ◌⊎◌, ◌↔◌, ℕ, ◌<◌, ◌≤◌, List, [], ◌∷◌, ◌++◌, length, map, ℤ, Contains, Bool, true, false, IsTrue, Result, Ok}
use Rattle.tv_program.specs.Limits.{condition_depth}
use Rattle.tv_program.specs.Steps.{State, Steps}
use Rattle.tv_program.specs.Systems.{System}
use Rattle.tv_program.specs.Trees.{Transition}
use Rattle.tv_formula.specs.Forms.{is_local}
use Rattle.tv_formula.specs.Properties.{Property}
use Rattle.tv_meaning.specs.Meaning.{Holds}
use Rattle.tv_cases.specs.Answers.{IsFaultIn, IsOfProgram}
use Rattle.tv_cases.specs.declared.case.CaseFault.{CaseFault}
use Rattle.tv_cases.specs.declared.case.CaseFault.TheVariants as case
use Rattle.tv_cases.specs.EdgeCases.{edge_cases}
use Rattle.tv_cases.specs.LinearCases.{LinearCase, CaseSystem, CaseDoes}
use Rattle.tv_cases.specs.ProgramCases.{LinearFault, linear_cases}
use Rattle.tv_cases.specs.Systems.{cases_of}
use Rattle.tv_finitely.specs.Doubling.{condition_at, doubled, doubled_count}
use Rattle.tv_finitely.specs.declared.split_program.Split.{Split}
use Rattle.tv_finitely.specs.declared.split_program.SplitFault.{SplitFault}
use Rattle.tv_finitely.specs.declared.split_program.SplitFault.TheVariants.{Temporal, Edges, Deep, Case, Memory}

-- cases, and for each whether it enters: whether it leads to a state where the property holds
pub record SplitSystem : Type 0 where
  pub system : CaseSystem
  pub enters : List Bool

abbrev pub split_of : Split → SplitSystem
split_of s = record { system = cases_of s.cases; enters = s.entering.items }

-- each case with its mark
abbrev pub with_marks : List LinearCase → List Bool → List (LinearCase × Bool)
with_marks [] marks = []
with_marks (c ∷ cs) [] = (c, false) ∷ with_marks cs []
with_marks (c ∷ cs) (m ∷ marks) = (c, m) ∷ with_marks cs marks

abbrev pub marked_cases : SplitSystem → List (LinearCase × Bool)
marked_cases s = with_marks s.system.cases s.enters

-- ---- what a split program says of the steps
-- some case with this mark leads from one state to the other
pub record StepsBy (s : SplitSystem) (mark : Bool) (a b : State) : Type 0 where
  pub taken : LinearCase
  pub among : Contains (marked_cases s) (taken, mark)
  pub draws : List ℤ
  pub does : CaseDoes taken draws a b

-- The cases are over the variables and locations of the program. The property holds at each state or does not. Those that enter lead exactly
-- along the steps to states where it holds, the others exactly along the steps to states where it does not.
pub record IsSplitOf (p : System) (f : Property) (s : SplitSystem) : Type 0 where
  pub program : IsOfProgram p s.system
  pub decided : (a : State) → Holds (Steps p) f a ⊎ (¬ (Holds (Steps p) f a))
  pub entering : (a b : State) → length a.values ≡ length p.variables → (Steps p a b × Holds (Steps p) f b) ↔ StepsBy s true a b
  pub leaving : (a b : State) → length a.values ≡ length p.variables → (Steps p a b × (¬ (Holds (Steps p) f b))) ↔ StepsBy s false a b

-- ---- how it is made
-- the same mark for each item
abbrev pub all_marked : {A : Type 0} → Bool → List A → List Bool
all_marked mark xs = map (λ x. mark) xs

-- the cases of the two copies of an edge in a program of n variables: those of the first enter
abbrev pub edge_marks : ℕ → List Transition → List Bool
edge_marks n [] = []
edge_marks n (e ∷ []) = all_marked true (edge_cases n e)
edge_marks n (e ∷ g ∷ es) = all_marked true (edge_cases n e) ++ (all_marked false (edge_cases n g) ++ edge_marks n es)

-- the condition that is assumed has at most 399 nodes on a path, and so its negation at most 400
abbrev pub depth_of : Property → ℕ
depth_of f = condition_depth (condition_at 0 f)

-- it has the cases of the doubled program, and those of the first copies enter
pub record IsSplitIn (p : System) (f : Property) (s : SplitSystem) : Type 0 where
  pub local : IsTrue (is_local f)
  pub few : doubled_count p ≤ 4096
  pub shallow : depth_of f ≤ 399
  pub cases : linear_cases (doubled f p) ≡ Ok s.system.cases
  pub marks : s.enters ≡ edge_marks (length p.variables) (doubled f p).edges

-- the fault is that of the cases; want of memory is none of them
abbrev pub IsCaseFault : Result (List LinearCase) LinearFault → CaseFault → Type 0
IsCaseFault meant (case.Wide edge) = IsFaultIn meant (case.Wide edge)
IsCaseFault meant (case.TooMany edge) = IsFaultIn meant (case.TooMany edge)
IsCaseFault meant case.Memory = ⊥

-- what a fault of the cases is as one of the split program
abbrev pub split_fault : CaseFault → SplitFault
split_fault (case.Wide edge) = Case (case.Wide edge)
split_fault (case.TooMany edge) = Case (case.TooMany edge)
split_fault case.Memory = Memory

-- Why the program was not split, or want of memory. At most one of the other faults is there, and none where it is split.
abbrev pub IsSplitFault : System → Property → SplitFault → Type 0
IsSplitFault p f Temporal = is_local f ≡ false
IsSplitFault p f (Edges count) = IsTrue (is_local f) × (4096 < count) × (count ≡ doubled_count p)
IsSplitFault p f Deep = IsTrue (is_local f) × (doubled_count p ≤ 4096) × (399 < depth_of f)
IsSplitFault p f (Case fault) =
    IsTrue (is_local f) × (doubled_count p ≤ 4096) × (depth_of f ≤ 399) × IsCaseFault (linear_cases (doubled f p)) fault
IsSplitFault p f Memory = Unit {0}
