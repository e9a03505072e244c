use Rattle.std.proofs.lemmas.Nat.Gcd.{IsGcd-from_mod}
use Rattle.tv_fraction.proofs.reduction.mixed_gcd.Goals as goal

pub returns : goal.returns
returns c = IsGcd-from_mod c.args.a c.args.b c.short_gcd-2.result c.short_gcd-2.ensures
