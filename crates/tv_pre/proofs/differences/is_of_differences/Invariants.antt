use Rattle.std.proofs.Common.{All, take}
use Rattle.tv_linear.specs.declared.region.Piece.{Piece}
use Rattle.tv_region.specs.Differences.{IsDifference}
use Rattle.tv_pre.proofs.differences.is_of_differences.Given as goal

abbrev pub invariant-pieces : goal.invariant-pieces
invariant-pieces l = All (λ (p : Piece). All IsDifference p.poly.rows.items) (take l.piece-index l.piece-items)
