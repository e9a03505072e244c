use Rattle.std.proofs.Common.{◌≡◌, ◌++◌}
use Rattle.tv_lexrank.specs.Pieces.{zero_ranks}
use Rattle.tv_lexrank.proofs.pieces.push_zeros.Given as goal

abbrev pub invariant-zeros : goal.invariant-zeros
invariant-zeros l = l.ranks.items ≡ l.fn.ranks.items ++ zero_ranks l.variables l.zero
