use Rattle.std.proofs.Common.{All, take}
use Rattle.tv_cases.specs.declared.case.Case.{Case}
use Rattle.tv_cases.specs.Views.{case_view}
use Rattle.tv_region.specs.Differences.{IsCaseOfDifferences}
use Rattle.tv_pre.proofs.differences.are_cases_of_differences.Given as goal

abbrev pub invariant-cases : goal.invariant-cases
invariant-cases l = All (λ (c : Case). IsCaseOfDifferences (case_view c)) (take l.case-index l.case-items)
