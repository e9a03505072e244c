use Rattle.std.proofs.Common.{◌≡◌, take}
use Rattle.tv_lexrank.specs.Rounds.{ranks_at}
use Rattle.tv_finitely.proofs.pieces.ranks_of.Given as goal

abbrev pub invariant-rounds : goal.invariant-rounds
invariant-rounds l = l.ranks.items ≡ ranks_at l.variables l.component (take l.round-index l.rounds) l.location
