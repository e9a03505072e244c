use Rattle.std.proofs.Common.{arith}
use Rattle.std.proofs.lemmas.Int.{ints}
use Rattle.tv_refute.proofs.met.is_at_most_zero.Goals as goal

pub returns : goal.returns
returns c =
    let decided = c.are_at_most_zero.ensures in
    (λ t. let at_most = decided.0 t in omega (arith, ints, at_most), λ h. decided.1 (omega (arith, ints, h)))
