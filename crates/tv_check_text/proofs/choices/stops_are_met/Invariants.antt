use Rattle.std.proofs.Common.{◌-◌, length}
use Rattle.tv_refute.specs.Frames.{known_at}
use Rattle.tv_cases.specs.LinearCases.{leaving}
use Rattle.tv_cases.specs.Systems.{cases_of}
use Rattle.tv_check_text.proofs.StopLemmas.{StopsFirst}
use Rattle.tv_check_text.proofs.choices.stops_are_met.Given as goal

abbrev pub invariant-cases : goal.invariant-cases
invariant-cases l =
    let system = cases_of l.context.about.now in
    StopsFirst system.variables (known_at l.frames) l.left (leaving l.location system.cases) l.fn.cursor l.k l.cursor l.met

abbrev pub decreases-cases : goal.decreases-cases
decreases-cases l = length (leaving l.location (cases_of l.context.about.now).cases) - l.k
