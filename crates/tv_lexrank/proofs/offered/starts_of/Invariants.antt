use Rattle.std.proofs.Common.{◌≡◌, map, take}
use Rattle.tv_cases.specs.LinearCases.{from_of}
use Rattle.tv_cases.specs.Views.{case_views}
use Rattle.tv_lexrank.proofs.offered.starts_of.Given as goal

abbrev pub invariant-cases : goal.invariant-cases
invariant-cases l = l.starts.items ≡ map from_of (case_views (take l.case-index l.list))
