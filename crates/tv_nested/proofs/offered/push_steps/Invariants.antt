use Rattle.std.proofs.Common.{take}
use Rattle.tv_cases.specs.LinearCases.{leaving}
use Rattle.tv_cases.specs.Systems.{cases_of}
use Rattle.tv_nested.specs.NodeProofs.{AreStepsShown}
use Rattle.tv_nested.proofs.offered.push_steps.Given as goal

abbrev pub invariant-places : goal.invariant-places
invariant-places l = AreStepsShown l.ranking l.location l.piece (take l.place (leaving l.location (cases_of l.ranking.about.now).cases)) l.fn.proofs.items l.proofs.items
