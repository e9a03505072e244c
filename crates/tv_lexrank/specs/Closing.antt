-- Whether the cases lead from the known rows into the known rows.
use Rattle.std.specs.Prelude.{◌≡◌, ◌⊎◌, ℕ, zero, suc, ◌+◌, ◌<◌, ◌≤◌, List, [], ◌∷◌, ◌++◌, length, map, Contains, All, ℤ, Option, None, Some}
use Rattle.tv_program.specs.Steps.{State}
use Rattle.tv_linear.specs.Linear.{Linear, columns, IsMet}
use Rattle.tv_linear.specs.Known.{Known, given, composed}
use Rattle.tv_linear.specs.Terms.{terms_after}
use Rattle.tv_linear.specs.Covers.{IsMetCover}
use Rattle.tv_linear.specs.Depth.{splits}
use Rattle.tv_linear.specs.declared.cover.CoverTree.{CoverTree}
use Rattle.tv_linear.specs.declared.cover.CoverTree as cover
use Rattle.tv_linear.specs.declared.region.Piece.{Piece}
use Rattle.tv_cases.specs.Before.{FitsBefore, rows_before, IsTooWide}
use Rattle.tv_cases.specs.LinearCases.{LinearCase, CaseSystem, CaseDoes}
use Rattle.tv_farkas.specs.Refuting.{AreShort}
use Rattle.tv_farkas.specs.Trees.{TreeRows, TreeNumbers}
use Rattle.tv_farkas.specs.declared.budget.Budget.{Budget}
use Rattle.tv_farkas.specs.declared.fault.CoverFault.{CoverFault}
use Rattle.tv_farkas.specs.declared.fault.CoverFault.TheVariants.{Splits, Solve, Wide, Memory}
use Rattle.tv_cover.specs.Covering.{IsHole, IsCoverFault}
use Rattle.tv_rank.specs.Ways.{Way, way_of, case_at, rows_at}
use Rattle.tv_lexrank.specs.Known.{way_rows, padded_rows}
use Rattle.tv_lexrank.specs.declared.fault.RankFault.{RankFault}
use Rattle.tv_lexrank.specs.declared.fault.RankFault.TheVariants as fault

-- the cover leads into the first target, by no fall, and shows no row
abbrev pub IsWholeCover : CoverTree → Type 0
IsWholeCover (cover.Split' r p a q b) = ⊥
IsWholeCover (cover.Empty ms) = ⊥
IsWholeCover (cover.Into target fall ls) = (target ≡ 0) × (fall ≡ 0) × (ls.items ≡ [])

-- ---- the rows before a case
abbrev pub IsUnmadeBy : LinearCase → List Linear → CoverFault → Type 0
IsUnmadeBy c rows (Splits path) = ⊥
IsUnmadeBy c rows (Solve kept e) = ⊥
IsUnmadeBy c rows (Wide column) = IsTooWide c rows column
IsUnmadeBy c rows Memory = ⊥

abbrev pub IsUnmade : LinearCase → List Linear → RankFault → Type 0
IsUnmade c rows (fault.Open taken values) = ⊥
IsUnmade c rows (fault.Cover f) = IsUnmadeBy c rows f
IsUnmade c rows (fault.Solve system e) = ⊥
IsUnmade c rows fault.Memory = Unit {0}

-- ---- covers
-- what is owed on entering the one target, where no fall is owed
abbrev pub owed_plain : List Known → ℕ → ℕ → Option (List Known)
owed_plain rows zero zero = Some rows
owed_plain rows zero (suc j) = None
owed_plain rows (suc k) j = None

-- the fault says something of a question
abbrev pub IsTold : CoverFault → Type 0
IsTold (Splits path) = Unit {0}
IsTold (Solve kept e) = Unit {0}
IsTold (Wide column) = Unit {0}
IsTold Memory = ⊥

-- the fault of a cover, or want of memory
abbrev pub IsHandedOn : CoverFault → RankFault → Type 0
IsHandedOn f (fault.Open taken values) = ⊥
IsHandedOn f (fault.Cover g) = IsTold f × (g ≡ f)
IsHandedOn f (fault.Solve system e) = ⊥
IsHandedOn f fault.Memory = Unit {0}

abbrev pub RefusesCover : ℕ → List Linear → List Linear → Budget → ℕ → RankFault → Type 0
RefusesCover n rows target budget k (fault.Open taken values) = (taken ≡ k) × IsHole n (target ∷ []) rows values.items
RefusesCover n rows target budget k (fault.Cover f) = IsTold f × IsCoverFault n (target ∷ []) rows budget.pivots budget.splits f
RefusesCover n rows target budget k (fault.Solve system e) = ⊥
RefusesCover n rows target budget k fault.Memory = Unit {0}

-- a row after a way
abbrev pub changed : ℕ → Way → Linear → Known
changed v w g = composed (given g) (terms_after v w.taken.updates)

-- a cover of the rows that are met where a way is taken into rows after it
pub record Leads (v : ℕ) (w : Way) (into : List Linear) (tree : CoverTree) : Type 0 where
  pub met : IsMetCover (v + w.taken.draws) (owed_plain (map (changed v w) into)) (way_rows w) tree
  pub shallow : splits tree ≤ 128
  pub short : TreeNumbers AreShort tree
  pub even : TreeRows (λ r. columns r ≡ v + w.taken.draws) tree

-- the case leads into the rows that are known where it ends
abbrev pub IsClosed : CaseSystem → List Piece → ℕ → CoverTree → Type 0
IsClosed about known k tree = Leads about.variables (way_of about.cases known k) (rows_at known (case_at about.cases k).to) tree

-- ---- refusals
-- the values, and then the draws, lead over the case from a state that meets the known rows to one that does not
pub record LeadsOut (about : CaseSystem) (known : List Piece) (taken : ℕ) (values : List ℤ) : Type 0 where
  pub numbered : taken < length about.cases
  pub old : State
  pub new : State
  pub draws : List ℤ
  pub parts : values ≡ old.values ++ draws
  pub wide : length old.values ≡ about.variables
  pub does : CaseDoes (case_at about.cases taken) draws old new
  pub meets : All (IsMet old.values) (rows_at known old.location)
  pub row : Linear
  pub among : Contains (rows_at known new.location) row
  pub unmet : IsMet new.values row → ⊥

-- the rows that are known where the case ends all fit before it, and the cover of the rows that are met where it is taken into these has the
-- fault
pub record IsUncovered (about : CaseSystem) (known : List Piece) (budget : Budget) (k : ℕ) (f : CoverFault) : Type 0 where
  pub fits : All (FitsBefore (case_at about.cases k)) (rows_at known (case_at about.cases k).to)
  pub fault :
      IsCoverFault (about.variables + (case_at about.cases k).draws) (rows_before (case_at about.cases k) (rows_at known (case_at about.cases k).to) ∷ [])
      (padded_rows (way_of about.cases known k)) budget.pivots budget.splits f

-- It is not settled whether the case leads into the rows that are known where it ends. There are some such rows. Before the case one of
-- them is too wide, or the cover into them has the fault.
pub record IsUnsettled (about : CaseSystem) (known : List Piece) (budget : Budget) (k : ℕ) (f : CoverFault) : Type 0 where
  pub numbered : k < length about.cases
  pub some : 0 < length (rows_at known (case_at about.cases k).to)
  pub told : IsTold f
  pub why : IsUnmadeBy (case_at about.cases k) (rows_at known (case_at about.cases k).to) f ⊎ IsUncovered about known budget k f

-- a case leads out of the known rows, or it is not settled whether it does
abbrev pub RefusesClosed : CaseSystem → List Piece → Budget → RankFault → Type 0
RefusesClosed about known budget (fault.Open taken values) = LeadsOut about known taken values.items
RefusesClosed about known budget (fault.Cover f) = (k : ℕ) × IsUnsettled about known budget k f
RefusesClosed about known budget (fault.Solve system e) = ⊥
RefusesClosed about known budget fault.Memory = Unit {0}
