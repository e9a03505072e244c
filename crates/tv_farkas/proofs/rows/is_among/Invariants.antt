use Rattle.std.proofs.Common.{ℕ, ◌≡◌, ◌<◌, get_or}
use Rattle.tv_farkas.proofs.rows.is_among.Given as goal

abbrev pub invariant-rows : goal.invariant-rows
invariant-rows l = (k : ℕ) → k < l.other-index → get_or l.rows k l.row ≡ l.row → ⊥
