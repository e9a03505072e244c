use Rattle.std.proofs.Common.{◌≡◌, ◌++◌, drop, map}
use Rattle.tv_cert.specs.Pieces.{place_of}
use Rattle.tv_cert.proofs.pieces.locations.Given as goal

abbrev pub invariant-loop-piece : goal.invariant-loop-piece
invariant-loop-piece l = l.locations.items ++ map place_of (drop l.piece-index l.list) ≡ map place_of l.list
