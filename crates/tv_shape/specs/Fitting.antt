-- A certificate fits: its nodes have the shape of the formula, its numbers are narrow, and it is not too deep.
use Rattle.std.specs.Prelude.{◌≡◌, ◌⊎◌, ℕ, ◌+◌, ◌≤◌, List, All}
use Rattle.tv_formula.specs.Properties.{Property}
use Rattle.tv_linear.specs.Depth.{splits}
use Rattle.tv_cert.specs.declared.node.Marked.{Marked}
use Rattle.tv_cert.specs.declared.node.Node.{Node, Node', Row_of-Node, end_of-Node, more_of-Node}
use Rattle.tv_cert.specs.declared.node.Verdict.{Verdict}
use Rattle.tv_cert.specs.declared.node.Verdict.TheVariants.{Proved, Disproved}
use Rattle.tv_cert.specs.Nodes.{pieces_of}
use Rattle.tv_cert.specs.Obligations.{About}
use Rattle.tv_cert.specs.Shapes.{HasShape, VerdictShape}
use Rattle.tv_cert.specs.Statements.{stated}
use Rattle.tv_shape.specs.Narrow.{AreNarrow, CountNarrow, CoverNarrow, PartsNarrow}
use Rattle.tv_shape.specs.Depths.{proof_splits}
use Rattle.tv_shape.specs.Stations.{stations, AreRight, IsFirstMisshapen}
use Rattle.tv_shape.specs.declared.fault.ShapeFault.{ShapeFault}
use Rattle.tv_shape.specs.declared.fault.ShapeFault.TheVariants as fault

abbrev mutual
  -- each number of the node and of those below it is below 2^62 in magnitude
  pub NodeNarrow : Node → Type 0
  NodeNarrow (Node' ps m shape kids proofs) = PartsNarrow m ps proofs.items × KidsNarrow kids

  pub KidsNarrow : {k : _} → Row_of-Node k → Type 0
  KidsNarrow end_of-Node = Unit {0}
  KidsNarrow (more_of-Node a kids) = NodeNarrow a × KidsNarrow kids

abbrev mutual
  -- where the node has this depth and a child one more, no node and no split of its proofs lies deeper than 384
  pub GoesWithin : ℕ → Node → Type 0
  GoesWithin depth (Node' ps m shape kids proofs) = (depth ≤ 384) × All (λ p. depth + proof_splits p ≤ 384) proofs.items × KidsGoWithin (depth + 1) kids

  pub KidsGoWithin : {k : _} → ℕ → Row_of-Node k → Type 0
  KidsGoWithin depth end_of-Node = Unit {0}
  KidsGoWithin depth (more_of-Node a kids) = GoesWithin depth a × KidsGoWithin depth kids

-- the numbers of the verdict are below 2^62 in magnitude
abbrev pub VerdictNarrow : Verdict → Type 0
VerdictNarrow (Proved tree) = CoverNarrow tree
VerdictNarrow (Disproved k values) = CountNarrow k × AreNarrow values.items

-- the splits of the verdict lie no deeper than 384; the first split has depth 1
abbrev pub VerdictShallow : Verdict → Type 0
VerdictShallow (Proved tree) = splits tree ≤ 384
VerdictShallow (Disproved k values) = Unit {0}

-- the nodes of a certificate fit the formula
pub record NodesFit (about : About) (f : Property) (root : Node) : Type 0 where
  pub shape : HasShape about f root
  pub narrow : NodeNarrow root
  pub depth : GoesWithin 1 root

-- what is said over the pieces of the root fits
pub record VerdictFits (about : About) (ps : List Marked) (verdict : Verdict) : Type 0 where
  pub shape : VerdictShape about ps verdict
  pub narrow : VerdictNarrow verdict

-- a certificate fits the formula
pub record Fits (about : About) (f : Property) (root : Node) (verdict : Verdict) : Type 0 where
  pub nodes : NodesFit about f root
  pub shallow : VerdictShallow verdict
  pub said : VerdictFits about (pieces_of root) verdict

-- what is at fault in the verdict, which counts as a fault of the root: that it goes too deep, and else its shape
abbrev pub IsVerdictFault : About → List Marked → Verdict → ShapeFault → Type 0
IsVerdictFault about ps verdict (fault.Deep n) = (n ≡ 0) × (¬ (VerdictShallow verdict))
IsVerdictFault about ps verdict (fault.Shape n) = (n ≡ 0) × VerdictShallow verdict × (¬ (VerdictFits about ps verdict))
IsVerdictFault about ps verdict fault.Memory = ⊥

-- the first fault: of the nodes, each before its children, and of the verdict after them all
abbrev pub IsFirstFault : About → Property → Node → Verdict → ShapeFault → Type 0
IsFirstFault about f root verdict x =
    IsFirstMisshapen about.system (stations 0 1 (stated about.tests f) root) x
    ⊎ (AreRight about.system (stations 0 1 (stated about.tests f) root) × IsVerdictFault about (pieces_of root) verdict x)
