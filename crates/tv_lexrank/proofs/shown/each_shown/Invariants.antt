use Rattle.std.proofs.Common.{take}
use Rattle.tv_cases.specs.Systems.{cases_of}
use Rattle.tv_lexrank.specs.Steps.{ShowsThese}
use Rattle.tv_lexrank.proofs.shown.each_shown.Given as goal

abbrev pub invariant-cases : goal.invariant-cases
invariant-cases l = ShowsThese l.ranking (take l.number (cases_of l.ranking.about.now).cases) l.all.items
