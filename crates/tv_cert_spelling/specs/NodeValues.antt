-- Nodes, apart from where they lie in memory.
use Rattle.std.specs.Prelude.{ℕ, List, map}
use Rattle.tv_linear.specs.Linear.{Linear}
use Rattle.tv_cert.specs.declared.node.Mark.{Mark}
use Rattle.tv_cert.specs.declared.node.Marked.{Marked}
use Rattle.tv_cert.specs.declared.node.Proof.{Proof}
use Rattle.tv_cert.specs.declared.node.Proof.TheVariants.{Covered, Chosen}
use Rattle.tv_cert.specs.declared.node.Node.{Node, Node', Row_of-Node, end_of-Node, more_of-Node}
use Rattle.tv_cert.specs.Pieces.{place_of, rows_of, ranks_of}
use Rattle.tv_cert_spelling.specs.CoverValues.{CoverValue, cover_value}
use Rattle.tv_cert_spelling.specs.ChoiceValues.{ChoiceValue, choice_value}

-- a piece: its location, its mark, its rows with their number of columns, and its ranks
pub record PieceValue : Type 0 where
  pub location : ℕ
  pub mark : Mark
  pub columns : ℕ
  pub rows : List Linear
  pub ranks : List Linear

abbrev pub piece_value : Marked → PieceValue
piece_value p = record { location = place_of p; mark = p.mark; columns = p.columns; rows = rows_of p; ranks = ranks_of p }

pub data ProofValue : Type 0 where
  covered : CoverValue → ProofValue
  chosen : ChoiceValue → ProofValue

abbrev pub proof_value : Proof → ProofValue
proof_value (Covered tree) = covered (cover_value tree)
proof_value (Chosen tree) = chosen (choice_value tree)

mutual
  -- a node: its pieces, how many ranks each has that goes on by ranks, its children and its proofs
  pub data NodeValue : Type 0 where
    node : List PieceValue → ℕ → NodeValues → List ProofValue → NodeValue

  pub data NodeValues : Type 0 where
    none : NodeValues
    more : NodeValue → NodeValues → NodeValues

abbrev mutual
  pub node_value : Node → NodeValue
  node_value (Node' ps m shape kids proofs) = node (map piece_value ps) m (child_values kids) (map proof_value proofs.items)

  pub child_values : {k : _} → Row_of-Node k → NodeValues
  child_values end_of-Node = none
  child_values (more_of-Node a kids) = more (node_value a) (child_values kids)
