use Rattle.std.proofs.Common.{◌≡◌}
use Rattle.tv_finitely.specs.Ranked.{ranked_pieces}
use Rattle.tv_finitely.proofs.pieces.pieces_of.Given as goal

abbrev pub invariant-locations : goal.invariant-locations
invariant-locations l = l.pieces.items ≡ ranked_pieces l.ranking l.location
