use Rattle.std.proofs.Common.{◌≡◌, ℕ, ◌<◌, length, get_or, pos, ◌*ℤ◌}
use Rattle.tv_simplex.specs.Outcomes.{IsShort}
use Rattle.tv_simplex.specs.Scales.{numerator_at, denominator_at}
use Rattle.tv_simplex.proofs.scaling.bring_to_scale.Given as goal

abbrev pub invariant-places : goal.invariant-places
invariant-places l = record {
  size : length l.numbers.items ≡ l.j;
  same : (j : ℕ) → j < l.j → get_or l.numbers.items j (pos 0) *ℤ denominator_at l.fractions j ≡ pos l.scale *ℤ numerator_at l.fractions j;
  short : (j : ℕ) → j < l.j → IsShort (get_or l.numbers.items j (pos 0));
}
