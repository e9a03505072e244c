use Rattle.std.proofs.Common.{take}
use Rattle.tv_finitely.specs.Proofs.{AreStepsOver}
use Rattle.tv_finitely.specs.Ranked.{split_in}
use Rattle.tv_finitely.specs.Splits.{marked_cases}
use Rattle.tv_finitely.proofs.offered.push_steps.Given as goal

abbrev pub invariant-cases : goal.invariant-cases
invariant-cases l = AreStepsOver l.ranking l.location (take l.number (marked_cases (split_in l.ranking))) l.fn.proofs.items l.proofs.items
