-- What the depths from 2 to 4 are answered.
use Rattle.std.specs.Prelude.{ℕ, ◌<◌, ◌≤◌, List, length, ℤ}
use Rattle.tv_linear.specs.declared.region.Piece.{Piece}
use Rattle.tv_cases.specs.LinearCases.{CaseSystem}
use Rattle.tv_simplex.specs.Outcomes.{IsBarrierOf}
use Rattle.tv_rank.specs.Answers.{IsRefusal}
use Rattle.tv_rank.specs.Ways.{way_at}
use Rattle.tv_nested.specs.declared.depths.Depths.{Depths}
use Rattle.tv_nested.specs.declared.depths.Depths.TheVariants as depths
use Rattle.tv_nested.specs.declared.depths.DepthFault.{DepthFault}
use Rattle.tv_nested.specs.Answers.{system_of_set, IsFound}
use Rattle.tv_nested.specs.Tuples.{NoneNested}
use Rattle.tv_nested.specs.declared.nesting.Family.{Family}
use Rattle.tv_nested.specs.declared.nesting.Nesting.TheVariants.{Terms}

-- a barrier of the nested system of a depth, and no tuple of that depth is nested over the set
pub record IsBarred (about : CaseSystem) (known : List Piece) (set : List ℕ) (d : ℕ) (y : List ℤ) : Type 0 where
  pub barrier : IsBarrierOf (system_of_set about known set d) y
  pub none : NoneNested about.variables d (length set) (way_at about.cases known set)

-- terms of a depth from 2 to 4 that are nested over the set
pub record IsNestedAt (about : CaseSystem) (known : List Piece) (set : List ℕ) (d : ℕ) (family : Family) : Type 0 where
  pub deep : 2 ≤ d
  pub shallow : d ≤ 4
  pub found : IsFound about.variables about.locations (length set) d (way_at about.cases known set) (Terms family)

abbrev pub AreAnswered : CaseSystem → List Piece → List ℕ → Depths → Type 0
AreAnswered about known set (depths.Nested d family) = IsNestedAt about known set d family
AreAnswered about known set (depths.None two three four) =
    IsBarred about known set 2 two.items × IsBarred about known set 3 three.items × IsBarred about known set 4 four.items

-- no tuple of at least 2 terms, and of fewer than a number, is nested over the set
abbrev pub NoneBelow : CaseSystem → List Piece → List ℕ → ℕ → Type 0
NoneBelow about known set d = (i : ℕ) → 2 ≤ i → i < d → NoneNested about.variables i (length set) (way_at about.cases known set)

-- the refusal of the nested system of a depth from 2 to 4, where at no lesser depth terms are nested
pub record IsDepthFault (about : CaseSystem) (known : List Piece) (set : List ℕ) (pivots : ℕ) (e : DepthFault) : Type 0 where
  pub deep : 2 ≤ e.depth
  pub shallow : e.depth ≤ 4
  pub before : NoneBelow about known set e.depth
  pub refusal : IsRefusal (system_of_set about known set e.depth) pivots e.fault
