-- Fixpoints that are to come to an end, where all states are ranked.
use Rattle.std.specs.Prelude.{◌≡◌, ◌⊎◌, ℕ, List, ◌++◌, false, true}
use Rattle.std.specs.List.{flat_map}
use Rattle.tv_formula.specs.declared.tree.Path.TheVariants.{Every}
use Rattle.tv_linear.specs.declared.region.Piece.{Piece}
use Rattle.tv_cases.specs.LinearCases.{CaseSystem, CaseSteps}
use Rattle.tv_cert.specs.declared.node.Mark.TheVariants.{Go}
use Rattle.tv_cert.specs.declared.node.Marked.{Marked}
use Rattle.tv_cert.specs.declared.node.Proof.{Proof}
use Rattle.tv_cert.specs.MarkedRows.{MarkedRows, marked}
use Rattle.tv_cert.specs.Pieces.{goes}
use Rattle.tv_choice.specs.Leading.{piece_rows}
use Rattle.tv_known.specs.Rounds.{GoesInto}
use Rattle.tv_lexrank.specs.Shown.{ranks_there}
use Rattle.tv_pre.specs.declared.sides.Sides.{Sides}
use Rattle.tv_pre.specs.Fixed.{OnWay, AtEnd, fixed_owes, AsksEnds, AsksWay}
use Rattle.tv_pre.specs.Growing.{AsksCome}
use Rattle.tv_pre.specs.Inclusions.{OfPieces}
use Rattle.tv_pre.specs.Lowering.{IsRankedAs}
use Rattle.tv_shape.specs.Made.{Offers}
use Rattle.tv_pre.specs.Pieces.{InPieces, AreMarked}
use Rattle.tv_pre.specs.Questions.{Question, AsksOf}
use Rattle.tv_pre.specs.Ranked.{EachOf}

-- The pieces that are done are where the fixpoint ends; the others are on the way. A step leads from each state of these, and each such
-- step leads into the pieces together.
pub record AreComing (about : CaseSystem) (sides : Sides) (done onward own : List Piece) : Type 0 where
  pub ends : OfPieces about done (AtEnd sides)
  pub hold : OfPieces about onward (OnWay sides)
  pub goes : OfPieces about onward (GoesInto (CaseSteps about) Every (InPieces own))

-- the piece goes on with the ranks that these pieces have at its location
abbrev pub ranked_as : ℕ → List Marked → Piece → MarkedRows
ranked_as n ranked q = marked q.location n Go (piece_rows q) (ranks_there ranked q.location)

-- the proofs of what these pieces owe, first those that are done
abbrev pub ShowsComing : CaseSystem → Sides → List Marked → List Piece → List Piece → List Piece → List Proof → Type 0
ShowsComing about sides ranked done onward own proofs =
    (number : ℕ) (first second ps qs : List Marked) → AreMarked first sides.first.now.pieces.items → AreMarked second sides.second.now.pieces.items →
    AreMarked (ps ++ qs) own → AreMarked ps done → AreMarked qs onward → EachOf (λ p. goes p ≡ false) ps → EachOf (IsRankedAs ranked) qs →
    Offers (flat_map (fixed_owes about sides number (ps ++ qs) first second false) ps ++ flat_map (fixed_owes about sides number (ps ++ qs) first second true) qs) proofs

abbrev pub AsksComing : CaseSystem → Sides → List Piece → List Piece → List Piece → Question → Type 0
AsksComing about sides done onward own a = AsksEnds sides done a ⊎ AsksOf (λ q b. AsksWay sides q b ⊎ AsksCome about Every q own b) onward a
