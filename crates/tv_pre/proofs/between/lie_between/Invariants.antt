use Rattle.std.proofs.Common.{take, ◌∷◌, []}
use Rattle.std.specs.Prelude.{All}
use Rattle.tv_cases.specs.Systems.{cases_of}
use Rattle.tv_pre.specs.Inclusions.{OfPiece}
use Rattle.tv_pre.specs.Parts.{joined_pieces}
use Rattle.tv_pre.specs.Pieces.{InPieces}
use Rattle.tv_pre.proofs.between.lie_between.Given as goal

abbrev pub invariant-pieces : goal.invariant-pieces
invariant-pieces l = All (λ q. OfPiece (cases_of l.setting.about.now) q (InPieces (joined_pieces (l.first ∷ l.second ∷ [])))) (take l.piece-index l.pieces)
