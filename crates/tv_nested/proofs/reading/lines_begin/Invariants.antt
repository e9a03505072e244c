use Rattle.std.proofs.Common.{◌≡◌, length}
use Rattle.tv_nested.specs.ReadOff.{terms_until}
use Rattle.tv_nested.proofs.reading.lines_begin.Given as goal

abbrev pub invariant-locations : goal.invariant-locations
invariant-locations l = l.place ≡ length (terms_until l.solved l.location)
