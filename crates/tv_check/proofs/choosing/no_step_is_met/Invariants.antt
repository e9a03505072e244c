use Rattle.std.proofs.Common.{◌+◌, ◌-◌, ◌++◌, length}
use Rattle.tv_linear.specs.Known.{as_given}
use Rattle.tv_linear.specs.Covers.{no_target, IsMetCover}
use Rattle.tv_refute.specs.Frames.{known_at}
use Rattle.tv_cases.specs.LinearCases.{leaving}
use Rattle.tv_cases.specs.Systems.{cases_of}
use Rattle.tv_cert.proofs.ZipLemmas.{ZipsFrom}
use Rattle.tv_check.proofs.choosing.no_step_is_met.Given as goal

abbrev pub invariant-cases : goal.invariant-cases
invariant-cases l = ZipsFrom (λ c cover. IsMetCover (l.columns + c.draws) no_target (known_at l.frames ++ as_given c.guards) cover) (leaving l.location (cases_of l.about).cases) l.covers l.k

abbrev pub decreases-cases : goal.decreases-cases
decreases-cases l = length (leaving l.location (cases_of l.about).cases) - l.k
