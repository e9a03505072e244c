use Rattle.std.proofs.Common.{take}
use Rattle.tv_cases.specs.Systems.{cases_of}
use Rattle.tv_pre.specs.Pieces.{ArePieces, AreMarked}
use Rattle.tv_pre.proofs.ranked_end.bare_pieces.Given as goal

abbrev pub invariant-pieces : goal.invariant-pieces
invariant-pieces l = record {
  marked : AreMarked (take l.piece-index l.pieces) l.all.items;
  over : ArePieces (cases_of l.about) l.all.items;
}
