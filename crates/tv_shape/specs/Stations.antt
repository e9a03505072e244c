-- The shape of a certificate node by node, in pre-order.
use Rattle.std.specs.Prelude.{◌≡◌, ℕ, ◌+◌, ◌≤◌, List, [], ◌∷◌, ◌++◌, length, map, All}
use Rattle.tv_cases.specs.LinearCases.{CaseSystem}
use Rattle.tv_cert.specs.declared.node.Node.{Node, Node', Row_of-Node, end_of-Node, more_of-Node}
use Rattle.tv_cert.specs.NodeViews.{pieces_list}
use Rattle.tv_cert.specs.Nodes.{size}
use Rattle.tv_cert.specs.Shapes.{OwnShape}
use Rattle.tv_cert.specs.Statements.{Statement, Statements, no_statement, statement, parts_of, count}
use Rattle.tv_shape.specs.Parts.{children_of, proofs_of, ranks_at}
use Rattle.tv_shape.specs.Narrow.{PartsNarrow}
use Rattle.tv_shape.specs.Depths.{proof_splits}
use Rattle.tv_shape.specs.declared.fault.ShapeFault.{ShapeFault}
use Rattle.tv_shape.specs.declared.fault.ShapeFault.TheVariants as fault

-- a node with its number, its depth and what it is to show
pub record Station : Type 0 where
  pub number : ℕ
  pub depth : ℕ
  pub states : Statement
  pub node : Node

abbrev pub station : ℕ → ℕ → Statement → Node → Station
station number depth s node = record { number = number; depth = depth; states = s; node = node }

abbrev mutual
  -- The node and those below it, each before its children. A node that has more or fewer children than its statement has
  -- arguments stands among them, and its children as far as there are arguments.
  pub stations : ℕ → ℕ → Statement → Node → List Station
  stations number depth s (Node' ps m shape kids proofs) = station number depth s (Node' ps m shape kids proofs) ∷ kid_stations (number + 1) (depth + 1) (parts_of s) kids

  pub kid_stations : {k : _} → ℕ → ℕ → Statements → Row_of-Node k → List Station
  kid_stations number depth ss end_of-Node = []
  kid_stations number depth no_statement (more_of-Node a kids) = []
  kid_stations number depth (statement s ss) (more_of-Node a kids) = stations number depth s a ++ kid_stations (number + size a) depth ss kids

-- the node has a child for each argument, the shape of its own parts, and narrow numbers
pub record IsShaped (system : CaseSystem) (t : Station) : Type 0 where
  pub arguments : length (children_of t.node) ≡ count (parts_of t.states)
  pub own : OwnShape system t.states (ranks_at t.node) (pieces_list t.node) (map pieces_list (children_of t.node)) (proofs_of t.node)
  pub narrow : PartsNarrow (ranks_at t.node) (pieces_list t.node) (proofs_of t.node)

-- neither the node nor a split of its proofs lies deeper than 384
pub record IsShallow (t : Station) : Type 0 where
  pub node : t.depth ≤ 384
  pub splits : All (λ p. t.depth + proof_splits p ≤ 384) (proofs_of t.node)

-- nothing is at fault at the node
abbrev pub IsRight : CaseSystem → Station → Type 0
IsRight system t = IsShallow t × IsShaped system t

-- what is at fault at the node: that it or a split lies too deep, and else its shape
abbrev pub IsFaultAt : CaseSystem → Station → ShapeFault → Type 0
IsFaultAt system t (fault.Deep n) = (n ≡ t.number) × (¬ (IsShallow t))
IsFaultAt system t (fault.Shape n) = (n ≡ t.number) × IsShallow t × (¬ (IsShaped system t))
IsFaultAt system t fault.Memory = ⊥

abbrev pub AreRight : CaseSystem → List Station → Type 0
AreRight system [] = Unit {0}
AreRight system (t ∷ ts) = IsRight system t × AreRight system ts

-- the nodes before are right, and this is at fault at the next one
pub record IsFirstMisshapen (system : CaseSystem) (ts : List Station) (f : ShapeFault) : Type 0 where
  pub before : List Station
  pub wrong : Station
  pub after : List Station
  pub parts : ts ≡ before ++ wrong ∷ after
  pub right : AreRight system before
  pub fault : IsFaultAt system wrong f
