-- What visits have to show, and what they offer for it.
use Rattle.std.specs.Prelude.{ℕ, List, [], ◌∷◌, ◌++◌, Bool, ◌==◌, if◌then◌else◌}
use Rattle.std.specs.List.{flat_map}
use Rattle.tv_linear.specs.declared.cover.CoverTree.{CoverTree}
use Rattle.tv_cases.specs.LinearCases.{LinearCase, CaseSystem, from_of}
use Rattle.tv_cert.specs.declared.node.Marked.{Marked}
use Rattle.tv_cert.specs.declared.node.Node.{Node}
use Rattle.tv_cert.specs.declared.node.Proof.{Proof}
use Rattle.tv_cert.specs.declared.node.Verdict.TheVariants.{Proved}
use Rattle.tv_cert.specs.AboutSystem.{about_of}
use Rattle.tv_cert.specs.Nodes.{root_entry}
use Rattle.tv_cert.specs.NodeViews.{pieces_list}
use Rattle.tv_cert.specs.Obligations.{Obligation, Entry, step_of, case_change, paired}
use Rattle.tv_cert.specs.Pieces.{place_of, ranks_of}
use Rattle.tv_shape.specs.Parts.{proofs_of, ranks_at}
use Rattle.tv_finitely.specs.declared.visits.Visits.{Visits}
use Rattle.tv_finitely.specs.Kept.{visit_fall}
use Rattle.tv_finitely.specs.Splits.{SplitSystem, marked_cases}

-- pieces with the number of ranks of each, a proof for each step from them, and a cover of the start by them
pub record VisitParts : Type 0 where
  pub pieces : List Marked
  pub ranks : ℕ
  pub proofs : List Proof
  pub root : CoverTree

abbrev pub visits_of : Visits → VisitParts
visits_of v = record { pieces = v.pieces; ranks = v.ranks; proofs = v.proofs.items; root = v.root }

-- those of a node and a cover
abbrev pub offered_by : Node → CoverTree → VisitParts
offered_by node root = record { pieces = pieces_list node; ranks = ranks_at node; proofs = proofs_of node; root = root }

-- a cover of a piece and the guards of a marked case into the pieces where it leads, with what is owed of the ranks
abbrev pub step_owed : CaseSystem → List Marked → Marked → LinearCase × Bool → Obligation
step_owed system ps p m = step_of 0 (about_of system) p ps (λ c. visit_fall m.1 (case_change system.variables c) (ranks_of p)) m.0

-- it is owed where the case is from the location of the piece
abbrev pub case_owes : CaseSystem → List Marked → Marked → LinearCase × Bool → List Obligation
case_owes system ps p m = (if from_of m.0 == place_of p then step_owed system ps p m ∷ [] else [])

-- the obligations of a piece, by the cases from its location in order
abbrev pub piece_owes : SplitSystem → List Marked → Marked → List Obligation
piece_owes s ps p = flat_map (case_owes s.system ps p) (marked_cases s)

-- those of all pieces, in order
abbrev pub steps_owed : SplitSystem → List Marked → List Obligation
steps_owed s ps = flat_map (piece_owes s ps) ps

-- all obligations with their proofs, numbered from 1; the last is that the start is covered by the pieces there
abbrev pub visit_entries : SplitSystem → VisitParts → List Entry
visit_entries s v = paired (steps_owed s v.pieces) v.proofs ++ root_entry (about_of s.system) v.pieces (Proved v.root) ∷ []
