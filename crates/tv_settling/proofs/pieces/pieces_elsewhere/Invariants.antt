use Rattle.std.proofs.Common.{◌≡◌}
use Rattle.tv_settling.specs.Below.{pieces_below, elsewhere}
use Rattle.tv_settling.proofs.pieces.pieces_elsewhere.Given as goal

abbrev pub invariant-places : goal.invariant-places
invariant-places l = l.pieces.items ≡ pieces_below (elsewhere l.columns l.location) l.place
