use Rattle.std.proofs.Common.{All, sym, subst, List}
use Rattle.tv_cases.specs.LinearCases.{LinearCase}
use Rattle.tv_cases.specs.declared.case.Case.{Case}
use Rattle.tv_cases.specs.Views.{case_view}
use Rattle.tv_region.specs.Met.{Has}
use Rattle.tv_region.specs.Differences.{IsCaseOfDifferences}
use Rattle.tv_pre.proofs.DifferenceLemmas.{all_cases, case_more, not_false}
use Rattle.tv_pre.proofs.differences.are_cases_of_differences.Goals as goal
use Rattle.tv_linear.proofs.ListLaws.{take_past}
use Rattle.tv_region.proofs.StepLemmas.{case_has}

pub cases-preserved : goal.cases-preserved
cases-preserved c =
    case_more c.list-case-items.result.now c.cases.case-index c.case-item.result c.cases-test.true c.case-item.is c.cases.invariant
    (c.is_case_of_differences.ensures.found c.if-not-is_case_of_differences.false)

pub returns-clause-found : goal.returns-clause-found
returns-clause-found c = λ t k m.
    let whole = take_past c.list-case-items.result.now c.cases.case-index c.cases-test.false in
    all_cases c.list-case-items.result.now (subst (All (λ (x : Case). IsCaseOfDifferences (case_view x))) whole c.cases.invariant) k
    (subst (λ (cs : List LinearCase). Has cs k) (sym c.list-case-items.ensures.same) m)

pub returns-then-not-is_case_of_differences-clause-all : goal.returns-then-not-is_case_of_differences-clause-all
returns-then-not-is_case_of_differences-clause-all c = λ h.
    let items = c.list-case-items.result.now in
    let case = c.case-item.result in
    not_false _ (c.is_case_of_differences.ensures.all (h (case_view case) (subst (λ (cs : List LinearCase). Has cs (case_view case)) c.list-case-items.ensures.same (case_has items c.cases.case-index case c.cases-test.true c.case-item.is)))) c.if-not-is_case_of_differences.true
