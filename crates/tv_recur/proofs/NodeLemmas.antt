-- A node from each of whose pieces a choice leads into one of them fits, and is met.
use Rattle.std.proofs.Common.{ℕ, ◌^◌, ◌<◌, List, [], ◌∷◌, length, All, false, arith, refl, ◌∙◌}
use Rattle.std.specs.List.{AllZip, flat_map}
use Rattle.tv_cases.specs.LinearCases.{CaseSystem}
use Rattle.tv_cert.specs.declared.node.Marked.{Marked}
use Rattle.tv_cert.specs.declared.node.Proof.{Proof}
use Rattle.tv_cert.specs.declared.node.Proof.TheVariants.{Covered, Chosen}
use Rattle.tv_cert.specs.declared.node.Node.{Node}
use Rattle.tv_cert.specs.Claims.{about_with}
use Rattle.tv_cert.specs.Nodes.{piece_of}
use Rattle.tv_cert.specs.Shapes.{PieceShape}
use Rattle.tv_cert.proofs.NodeLemmas.{pieces_are}
use Rattle.tv_shape.specs.Made.{HasOwn, IsOffered}
use Rattle.tv_shape.proofs.MadeLemmas.{node_fitted}
use Rattle.tv_points.specs.Nodes.{endless}
use Rattle.tv_recur.specs.Nodes.{GoesOn, IsEndlessNode}

offered : (about : CaseSystem) (number : ℕ) (ps : List Marked) (qs : List Marked) (proofs : List Proof) → AllZip (GoesOn about ps) qs proofs → AllZip IsOffered (flat_map (piece_of number (about_with about) endless ps []) qs) proofs
offered about number ps [] [] h = tt
offered about number ps [] (x ∷ proofs) h = absurd h
offered about number ps (q ∷ qs) [] h = absurd h
offered about number ps (q ∷ qs) (Covered tree ∷ proofs) h = absurd h.0
offered about number ps (q ∷ qs) (Chosen tree ∷ proofs) h = (
  record { shape = (h.0.shape, h.0.shallow); met = h.0.met; narrow = h.0.narrow },
  offered about number ps qs proofs h.1,
)

pub endless_fitted : (about : CaseSystem) (node : Node) (pieces : List Marked) (proofs : List Proof) → HasOwn node pieces 0 [] proofs → length pieces < 2 ^ 32 → All (PieceShape about 0 false) pieces → AllZip (GoesOn about pieces) pieces proofs → IsEndlessNode about pieces node
endless_fitted about node pieces proofs own bounded each on = record {
  fitted = node_fitted (about_with about) endless 1 node pieces 0 [] proofs own (record {
    said = tt;
    ranked = λ e. refl;
    small = omega arith;
    bounded = bounded;
    each = each;
    offered = λ number. offered about number pieces pieces proofs on;
    below = tt;
    shallow = omega arith;
  });
  pieces = pieces_are node ∙ own.pieces_are;
}
