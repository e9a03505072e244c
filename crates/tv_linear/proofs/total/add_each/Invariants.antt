use Rattle.std.proofs.Common.{◌+◌, ◌*◌, ◌^◌, ◌≤◌, ℕ, ◌<◌, get_or, pos}
use Rattle.std.specs.Prelude.{unsigned_abs}
use Rattle.tv_linear.proofs.Adding.{IsAddedTo}
use Rattle.tv_linear.proofs.total.add_each.Given as goal

abbrev pub invariant-loop-i : goal.invariant-loop-i
invariant-loop-i l = record {
  added : IsAddedTo l.initial.totals l.numbers l.totals l.i;
  small : (k : ℕ) → k < l.i → unsigned_abs (get_or l.totals k (pos 0)) ≤ (l.parts + 1) * 2 ^ 62;
}
