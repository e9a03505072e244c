use Rattle.std.proofs.lemmas.Nat.Gcd.{IsGcd-from_mod}
use Rattle.tv_fraction.proofs.reduction.gcd.Goals as goal

pub steps-preserved : goal.steps-preserved
steps-preserved c g h = c.steps.invariant g (IsGcd-from_mod _ _ g h)

pub returns : goal.returns
returns c = c.steps.invariant _ c.mixed_gcd.ensures
