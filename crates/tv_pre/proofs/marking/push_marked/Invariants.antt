use Rattle.std.proofs.Common.{◌≡◌, ◌++◌, map, take}
use Rattle.tv_pre.specs.Pieces.{marked_as}
use Rattle.tv_pre.proofs.marking.push_marked.Given as goal

abbrev pub invariant-pieces : goal.invariant-pieces
invariant-pieces l = l.list.items ≡ l.fn.list.items ++ map (marked_as l.variables l.mark l.ranks) (take l.piece-index l.pieces)
