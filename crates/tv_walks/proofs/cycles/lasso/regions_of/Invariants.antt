use Rattle.std.proofs.Common.{◌≡◌, length}
use Rattle.tv_walks.proofs.cycles.lasso.regions_of.Given as goal

abbrev pub invariant-loop-number : goal.invariant-loop-number
invariant-loop-number l = length l.regions.items ≡ length l.yielded
