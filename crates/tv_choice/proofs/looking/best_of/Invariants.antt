use Rattle.std.proofs.Common.{take}
use Rattle.tv_choice.specs.Looking.{IsBest}
use Rattle.tv_choice.proofs.looking.best_of.Given as goal

abbrev pub invariant-ways : goal.invariant-ways
invariant-ways l = IsBest l.question.columns l.place.rows.now (take l.way l.ways) l.best
