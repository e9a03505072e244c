use Rattle.std.proofs.Common.{arith}
use Rattle.std.proofs.lemmas.Nat.Gcd.{IsGcd-from_zero, IsGcd-from_mod, same_from_IsGcd}
use Rattle.tv_linear.proofs.Euclid.{gcd-is}
use Rattle.tv_linear.proofs.tight.greatest_common_divisor.Goals as goal

pub loop-y-preserved : goal.loop-y-preserved
loop-y-preserved c = record {
  same = λ g h. c.loop-y.invariant.same g (IsGcd-from_mod c.loop-y.x c.loop-y.y g h);
  left = omega arith;
  right = omega arith;
}

pub returns-clause-exact : goal.returns-clause-exact
returns-clause-exact c =
    same_from_IsGcd c.args.left c.args.right _ _ (c.loop-y.invariant.same c.loop-y.x (IsGcd-from_zero c.loop-y.x c.loop-y.y (omega arith))) (gcd-is c.args.left c.args.right)
