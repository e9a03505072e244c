use Rattle.std.proofs.Common.{◌≡◌, ◌++◌, map, take}
use Rattle.tv_cert.specs.Nodes.{pieces_of}
use Rattle.tv_pre.specs.RankedUntil.{ranked_as}
use Rattle.tv_pre.proofs.ranked_marking.push_ranked.Given as goal

abbrev pub invariant-pieces : goal.invariant-pieces
invariant-pieces l = l.list.items ≡ l.fn.list.items ++ map (ranked_as l.variables (pieces_of l.node)) (take l.piece-index l.pieces)
