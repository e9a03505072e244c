use Rattle.std.proofs.Common.{◌≡◌, ◌+ℤ◌, drop}
use Rattle.tv_linear.specs.Linear.{dot}
use Rattle.tv_refute.specs.Wide.{whole_of, IsSmall}
use Rattle.tv_refute.proofs.met.meets.Given as goal

abbrev pub invariant-loop-i : goal.invariant-loop-i
invariant-loop-i l = record {
  summed : whole_of l.total +ℤ dot (drop l.i l.coefficients) (drop l.i l.values) ≡ dot l.coefficients l.values;
  small : IsSmall l.i l.total;
}
