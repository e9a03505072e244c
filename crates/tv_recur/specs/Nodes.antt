-- Nodes from whose pieces choices lead on.
use Rattle.tv_shape.specs.Made.{IsFitted}
use Rattle.std.specs.Prelude.{◌≡◌, ℕ, List, []}
use Rattle.tv_linear.specs.Linear.{Linear}
use Rattle.tv_cases.specs.LinearCases.{CaseSystem}
use Rattle.tv_cert.specs.declared.node.Mark.TheVariants.{Go}
use Rattle.tv_cert.specs.declared.node.Marked.{Marked}
use Rattle.tv_cert.specs.declared.node.Node.{Node}
use Rattle.tv_cert.specs.declared.node.Proof.{Proof}
use Rattle.tv_cert.specs.declared.node.Proof.TheVariants.{Covered, Chosen}
use Rattle.tv_cert.specs.Claims.{about_with}
use Rattle.tv_cert.specs.MarkedRows.{MarkedRows, marked}
use Rattle.tv_cert.specs.Nodes.{pieces_of}
use Rattle.tv_cert.specs.Pieces.{place_of, rows_of}
use Rattle.tv_points.specs.Nodes.{endless}
use Rattle.tv_recur.specs.Choosing.{IsChoiceAt}

-- the piece of the rows at a location that goes on, without ranks
abbrev pub on_piece : ℕ → ℕ → List Linear → MarkedRows
on_piece n l rows = marked l n Go rows []

-- the proof is a choice that leads from the piece into these pieces
abbrev pub GoesOn : CaseSystem → List Marked → Marked → Proof → Type 0
GoesOn about ps p (Covered tree) = ⊥
GoesOn about ps p (Chosen tree) = IsChoiceAt about ps (place_of p) (rows_of p) tree

-- the node of these pieces shows that from each of their states some run never ends
pub record IsEndlessNode (about : CaseSystem) (ps : List Marked) (node : Node) : Type 0 where
  pub fitted : IsFitted (about_with about) endless 1 node
  pub pieces : pieces_of node ≡ ps
