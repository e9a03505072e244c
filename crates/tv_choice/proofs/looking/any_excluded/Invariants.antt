use Rattle.std.proofs.Common.{take, false}
use Rattle.tv_choice.specs.Looking.{IsAnyExcluded}
use Rattle.tv_choice.proofs.looking.any_excluded.Given as goal

abbrev pub invariant-owed : goal.invariant-owed
invariant-owed l = IsAnyExcluded l.question.columns l.place.rows.now (take l.number l.owed) false
