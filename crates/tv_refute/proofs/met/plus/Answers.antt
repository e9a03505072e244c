use Rattle.std.proofs.Common.{arith}
use Rattle.std.proofs.lemmas.Int.{ints}
use Rattle.tv_refute.proofs.met.plus.Goals as goal

pub returns-clause-whole : goal.returns-clause-whole
returns-clause-whole c = omega (arith, ints)
