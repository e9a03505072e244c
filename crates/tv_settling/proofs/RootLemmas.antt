-- The root: the start is covered by the known rows there.
use Rattle.std.proofs.Common.{◌≡◌, ℕ, zero, suc, List, [], ◌++◌, Some, ap, ◌∙◌}
use Rattle.std.proofs.lemmas.List.{append-nil}
use Rattle.tv_linear.specs.Known.{Known, given, as_given}
use Rattle.tv_linear.specs.declared.cover.CoverTree.{CoverTree}
use Rattle.tv_formula.specs.Forms.{never_at}
use Rattle.tv_cert.specs.declared.node.Node.{Node}
use Rattle.tv_cert.specs.Nodes.{pieces_of}
use Rattle.tv_cert.specs.Targets.{owed_into, target_rows, no_fall}
use Rattle.tv_shape.specs.Narrow.{CoverNarrow}
use Rattle.tv_rank.specs.Ways.{rows_at}
use Rattle.tv_lexrank.specs.Nodes.{IsPieceAt}
use Rattle.tv_lexrank.specs.Closing.{owed_plain}
use Rattle.tv_lexrank.specs.Certified.{IsStartCover, IsRoot}
use Rattle.tv_lexrank.proofs.NodeLemmas.{met_weaker}
use Rattle.tv_settling.specs.Nodes.{system_of, ShowsNever}
use Rattle.tv_settling.specs.declared.barrier.Barrier.{Barrier}

pub is_root : (b : Barrier) (node : Node) (tree : CoverTree) → ShowsNever b node → IsStartCover (system_of b).variables (rows_at b.known.now.pieces.items (system_of b).start) tree → CoverNarrow tree → IsRoot (system_of b) (never_at b.location) node tree
is_root b node tree shows begins narrow = record {
  fits = record { shape = shows.fitted.shape; narrow = shows.fitted.narrow; depth = shows.fitted.within };
  nodes = shows.fitted.met 0;
  met = met_weaker (system_of b).variables (owed_plain (as_given (rows_at b.known.now.pieces.items (system_of b).start))) (owed_into (pieces_of node) (system_of b).start given no_fall) owed [] tree begins.met;
  shallow = begins.shallow;
  even = begins.even;
  narrow = narrow;
}
  where
    piece : IsPieceAt (pieces_of node) (system_of b).start (rows_at b.known.now.pieces.items (system_of b).start)
    piece = shows.pieces (system_of b).start b.about.now.are_cases.starts

    owed : (k j : ℕ) (more : List Known) → owed_plain (as_given (rows_at b.known.now.pieces.items (system_of b).start)) k j ≡ Some more → owed_into (pieces_of node) (system_of b).start given no_fall k j ≡ Some more
    owed zero zero more e =
        ap (λ z. target_rows given no_fall z 0) piece.first ∙ ap (λ z. Some (as_given z ++ [])) piece.has
        ∙ ap Some (append-nil (as_given (rows_at b.known.now.pieces.items (system_of b).start))) ∙ e
    owed zero (suc j) more e = absurd cc
    owed (suc k) j more e = absurd cc
