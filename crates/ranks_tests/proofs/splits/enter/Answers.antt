use Rattle.std.proofs.Common.{◌<◌, length, subst}
use Rattle.tv_cases.specs.LinearCases.{CaseSystem}
use Rattle.ranks_tests.proofs.splits.enter.Goals as goal

pub enters-requires : goal.enters-requires
enters-requires c =
    subst (λ (s : CaseSystem). c.loop-number.number < length s.cases) c.cases.ensures.same
    (subst (λ n. c.loop-number.number < n) c.count_of-count.ensures c.loop-number-test.true)
