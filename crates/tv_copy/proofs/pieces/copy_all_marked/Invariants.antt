use Rattle.std.proofs.Common.{◌≡◌, take}
use Rattle.tv_copy.proofs.pieces.copy_all_marked.Given as goal

abbrev pub invariant-pieces : goal.invariant-pieces
invariant-pieces l = l.copies.items ≡ take l.piece-index l.pieces
