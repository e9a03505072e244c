use Rattle.std.proofs.Common.{◌≡◌, ℕ, ◌<◌, get_or, false}
use Rattle.tv_finitely.proofs.rounds.some_enters.Given as goal

abbrev pub invariant-places : goal.invariant-places
invariant-places l = (j : ℕ) → j < l.place → get_or l.entering (get_or l.set j 0) false ≡ false
