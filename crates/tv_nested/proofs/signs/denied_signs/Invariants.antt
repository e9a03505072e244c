use Rattle.std.proofs.Common.{◌≡◌, map, take}
use Rattle.tv_linear.specs.Arithmetic.{denial}
use Rattle.tv_nested.proofs.signs.denied_signs.Given as goal

abbrev pub invariant-signs : goal.invariant-signs
invariant-signs l = l.rows.items ≡ map denial (take l.place l.signs)
