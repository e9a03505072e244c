use Rattle.std.proofs.Common.{◌+◌, ◌-◌, length}
use Rattle.tv_linear.specs.Covers.{no_target}
use Rattle.tv_cases.specs.LinearCases.{leaving}
use Rattle.tv_cases.specs.Systems.{cases_of}
use Rattle.tv_cert.specs.Shapes.{CoverShape, owed_count}
use Rattle.tv_cert.proofs.ZipLemmas.{ZipsFrom}
use Rattle.tv_shape.proofs.choices.no_step_has_shape.Given as goal

abbrev pub invariant-cases : goal.invariant-cases
invariant-cases l = ZipsFrom (λ c tree. CoverShape (l.columns + c.draws) (owed_count no_target) (l.known + length c.guards) tree) (leaving l.location (cases_of l.about).cases) l.covers l.k

abbrev pub decreases-cases : goal.decreases-cases
decreases-cases l = length (leaving l.location (cases_of l.about).cases) - l.k
