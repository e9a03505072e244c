use Rattle.std.proofs.Common.{◌≡◌, take}
use Rattle.tv_invariant.specs.Places.{rows_at}
use Rattle.tv_search.proofs.left.rows_at.Given as goal

abbrev pub invariant-candidates : goal.invariant-candidates
invariant-candidates l = l.rows.items ≡ rows_at l.location (take l.candidate-index l.list)
