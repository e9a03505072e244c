use Rattle.std.proofs.Common.{take}
use Rattle.std.specs.List.{AllZip}
use Rattle.tv_copy.specs.SameRegions.{SamePiece}
use Rattle.tv_copy.proofs.regions.copy_pieces.Given as goal

abbrev pub invariant-pieces : goal.invariant-pieces
invariant-pieces l = AllZip SamePiece (take l.piece-index l.pieces) l.list.items
