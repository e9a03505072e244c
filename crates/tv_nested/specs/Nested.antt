-- What is answered of the nested terms of a program.
use Rattle.std.specs.Prelude.{◌≡◌, ◌⊎◌, ℕ, ◌+◌, ◌<◌, ◌≤◌, List, [], length, get_or, Contains, ℤ}
use Rattle.tv_linear.specs.Linear.{Linear}
use Rattle.tv_linear.specs.declared.cover.CoverTree.{CoverTree}
use Rattle.tv_linear.specs.declared.region.Piece.{Piece}
use Rattle.tv_cases.specs.LinearCases.{CaseSystem}
use Rattle.tv_farkas.specs.declared.budget.Budget.{Budget}
use Rattle.tv_farkas.specs.declared.fault.CoverFault.{CoverFault}
use Rattle.tv_formula.specs.Properties.{term}
use Rattle.tv_cert.specs.Nodes.{pieces_of}
use Rattle.tv_cert.specs.Pieces.{InPieces}
use Rattle.tv_cert.specs.declared.node.Node.{Node}
use Rattle.tv_program.specs.Steps.{State}
use Rattle.tv_rank.specs.Answers.{IsSystemFault}
use Rattle.tv_rank.specs.Given.{lists}
use Rattle.tv_rank.specs.Ways.{case_at, way_at}
use Rattle.tv_rank.specs.declared.name.Name.TheVariants as name
use Rattle.tv_simplex.specs.declared.fault.SolveFault.{SolveFault}
use Rattle.tv_lexrank.specs.Certified.{IsRoot}
use Rattle.tv_lexrank.specs.First.{AreComponents}
use Rattle.tv_lexrank.specs.Known.{AreBare}
use Rattle.tv_lexrank.specs.Parts.{NamesPart}
use Rattle.tv_nested.specs.declared.fault.NestName.{NestName}
use Rattle.tv_nested.specs.declared.fault.NestName.TheVariants as named
use Rattle.tv_nested.specs.declared.fault.NestFault.{NestFault}
use Rattle.tv_nested.specs.declared.fault.NestFault.TheVariants as fault
use Rattle.tv_nested.specs.declared.nested.Nested.{Nested}
use Rattle.tv_nested.specs.declared.nested.Nested.TheVariants as nested
use Rattle.tv_nested.specs.declared.part.Part.{Part}
use Rattle.tv_nested.specs.Answers.{system_of_set}
use Rattle.tv_nested.specs.Depths.{IsBarred}
use Rattle.tv_nested.specs.Parts.{IsNestedPart, AreNestedBefore, IsLeft, signs_in}
use Rattle.tv_nested.specs.SignFaults.{IsWideDenial}
use Rattle.tv_nested.specs.Steps.{IsWideStep}
use Rattle.tv_nested.specs.Tuples.{NoneNested}

-- ---- a node
-- each state over the variables at each location is in a piece of the node
abbrev pub CoversAll : CaseSystem → Node → Type 0
CoversAll about node = (s : State) → s.location < about.locations → length s.values ≡ about.variables → InPieces (pieces_of node) s

-- The node shows that every run ends: it fits, all its obligations are met, its pieces have all states, and the cover is one of the start.
pub record IsNestedNode (about : CaseSystem) (node : Node) (start : CoverTree) : Type 0 where
  pub root : IsRoot about term node start
  pub covers : CoversAll about node

-- ---- a set without nested terms
-- a barrier for each depth from 2 to 4, so that no tuple of this depth is nested over the set
pub record AreBarredDepths (about : CaseSystem) (known : List Piece) (set : List ℕ) (barriers : List (List ℤ)) : Type 0 where
  pub as_many : length barriers ≡ 3
  pub each : (i : ℕ) → i < 3 → IsBarred about known set (i + 2) (get_or barriers i [])

-- The rounds leave this set of the component, and no 2, 3 or 4 terms are nested over it; the components with lesser numbers have terms.
pub record IsUnnested (about : CaseSystem) (component : ℕ) (set : List ℕ) (barriers : List (List ℤ)) : Type 0 where
  pub numbers : List ℕ
  pub known : List Piece
  pub components : AreComponents about numbers
  pub bare : AreBare known
  pub left : IsLeft about known numbers component set
  pub barred : AreBarredDepths about known set barriers
  pub before : AreNestedBefore about known numbers component

abbrev pub IsNested : CaseSystem → Nested → Type 0
IsNested about (nested.Node node start) = IsNestedNode about node start
IsNested about (nested.None component set barriers) = IsUnnested about component set.items (lists barriers.items)

-- ---- refusals
-- the nested system of a set at a depth from 2 to 4 has the fault, and at no lesser depth terms are nested over it
pub record RefusesDepth (about : CaseSystem) (known : List Piece) (set : List ℕ) (pivots d : ℕ) (e : SolveFault) : Type 0 where
  pub deep : 2 ≤ d
  pub shallow : d ≤ 4
  pub before : (i : ℕ) → 2 ≤ i → i < d → NoneNested about.variables i (length set) (way_at about.cases known set)
  pub refuses : IsSystemFault (system_of_set about known set d) pivots e

-- A refusal is of the system that it names, of the first component for which it is not settled whether it has terms.
abbrev pub NamesSystem : CaseSystem → List Piece → List ℕ → ℕ → NestName → SolveFault → Type 0
NamesSystem about known numbers pivots (named.Empty k) e =
    (component : ℕ) × NamesPart about known numbers component pivots (name.Empty k) e × AreNestedBefore about known numbers component
NamesSystem about known numbers pivots (named.Rank component round falling) e =
    NamesPart about known numbers component pivots (name.Rank component round falling) e × AreNestedBefore about known numbers component
NamesSystem about known numbers pivots (named.Nest component d) e =
    (set : List ℕ) × IsLeft about known numbers component set × RefusesDepth about known set pivots d e
    × AreNestedBefore about known numbers component

-- a sign at a location of the component is too wide when it is denied
pub record IsDeniedWide (about : CaseSystem) (numbers : List ℕ) (component : ℕ) (part : Part) (f : CoverFault) : Type 0 where
  pub location : ℕ
  pub within : location < about.locations
  pub there : get_or numbers location 0 ≡ component
  pub sign : Linear
  pub among : Contains (signs_in about.variables part location) sign
  pub wide : IsWideDenial sign f

-- a sign where a case leads that ends in the component is too wide before the case
pub record IsComposedWide (about : CaseSystem) (numbers : List ℕ) (component : ℕ) (part : Part) (f : CoverFault) : Type 0 where
  pub taken : ℕ
  pub within : taken < length about.cases
  pub there : get_or numbers (case_at about.cases taken).to 0 ≡ component
  pub wide : IsWideStep (case_at about.cases taken) (signs_in about.variables part (case_at about.cases taken).to) f

abbrev pub IsWideSign : CaseSystem → List ℕ → ℕ → Part → CoverFault → Type 0
IsWideSign about numbers component part f = IsDeniedWide about numbers component part f ⊎ IsComposedWide about numbers component part f

-- the sign of a nested term of a component is too wide when it is denied, or composed with a case that leads into the component
pub record IsWideIn (about : CaseSystem) (f : CoverFault) : Type 0 where
  pub numbers : List ℕ
  pub known : List Piece
  pub component : ℕ
  pub part : Part
  pub components : AreComponents about numbers
  pub bare : AreBare known
  pub is_part : IsNestedPart about known numbers component part
  pub wide : IsWideSign about numbers component part f

-- a refusal: a sign is too wide, or the system that it names is not settled
abbrev pub RefusesNest : CaseSystem → Budget → NestFault → Type 0
RefusesNest about budget (fault.Solve system e) =
    (numbers : List ℕ) × (known : List Piece) × AreComponents about numbers × AreBare known × NamesSystem about known numbers budget.pivots system e
RefusesNest about budget (fault.Cover f) = IsWideIn about f
RefusesNest about budget fault.Memory = Unit {0}

-- a refusal of the node, where all components have terms: a sign is too wide
abbrev pub RefusesNode : CaseSystem → NestFault → Type 0
RefusesNode about (fault.Solve system e) = ⊥
RefusesNode about (fault.Cover f) = IsWideIn about f
RefusesNode about fault.Memory = Unit {0}
