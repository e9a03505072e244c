use Rattle.std.proofs.Common.{◌≡◌, ℕ, ◌<◌, slice_get, Some}
use Rattle.tv_cases.specs.LinearCases.{LinearCase}
use Rattle.tv_cases.specs.Systems.{cases_of}
use Rattle.tv_top.proofs.paths.first_drawn.Given as goal

abbrev pub invariant-cases : goal.invariant-cases
invariant-cases l = (k : ℕ) (c : LinearCase) → k < l.number → slice_get (cases_of l.about).cases k ≡ Some c → c.draws ≡ 0
