use Rattle.std.proofs.Common.{◌≡◌, map, take}
use Rattle.tv_invariant.specs.Places.{rows_at}
use Rattle.tv_invariant.proofs.lists.padded_at.Given as goal
use Rattle.tv_linear.specs.Arithmetic.{padded_row}

abbrev pub invariant-candidates : goal.invariant-candidates
invariant-candidates l = l.all.items ≡ map (padded_row l.more) (rows_at l.location (take l.candidate-index l.candidates))
