use Rattle.std.specs.Prelude.{◌<◌, ◌≤ℤ◌, pos, slice_index_or}
use Rattle.std.proofs.Common.{ℕ}
use Rattle.tv_pre.proofs.differences.are_between.Given as goal

abbrev pub invariant-numbers : goal.invariant-numbers
invariant-numbers l = (j : ℕ) → j < l.place → (l.least ≤ℤ slice_index_or l.numbers j (pos 0)) × (slice_index_or l.numbers j (pos 0) ≤ℤ l.most)
