use Rattle.std.proofs.Common.{ℕ, ◌≡◌, ◌<◌, ◌+◌, length, get_or}
use Rattle.tv_simplex.proofs.starting.artificial_basis.Given as goal

abbrev pub invariant-rows : goal.invariant-rows
invariant-rows l = (length l.basis.items ≡ l.row) × ((k : ℕ) → k < l.row → get_or l.basis.items k 0 ≡ l.system.columns + k)
