use Rattle.std.proofs.Common.{◌≡◌}
use Rattle.tv_settling.specs.Below.{pieces_below}
use Rattle.tv_settling.specs.Nodes.{known_there}
use Rattle.tv_settling.proofs.pieces.pieces_of.Given as goal

abbrev pub invariant-locations : goal.invariant-locations
invariant-locations l = l.pieces.items ≡ pieces_below (known_there l.barrier) l.location
