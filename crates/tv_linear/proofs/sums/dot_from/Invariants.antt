use Rattle.tv_linear.proofs.Summing.{IsSummedTo}
use Rattle.tv_linear.proofs.sums.dot_from.Given as goal

abbrev pub invariant-loop-i : goal.invariant-loop-i
invariant-loop-i g l = IsSummedTo l.factors (g.N.Numbers.numbers l.numbers) l.start l.total l.i
