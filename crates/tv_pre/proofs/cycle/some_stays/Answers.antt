use Rattle.std.proofs.Common.{◌≡◌, All, refl, subst}
use Rattle.std.specs.Prelude.{slice_index}
use Rattle.tv_cases.specs.declared.case.Case.{Case}
use Rattle.tv_cases.specs.Views.{case_view}
use Rattle.tv_pre.proofs.CycleLemmas.{case_there, case_kept, none_stays}
use Rattle.tv_pre.proofs.cycle.some_stays.Goals as goal
use Rattle.tv_linear.proofs.ListLaws.{take_past}

pub bounds-numbers-case : goal.bounds-numbers-case
bounds-numbers-case c = (c.requires (case_view c.case-item.result) (case_there c.args.list.now c.cases.case-index c.case-item.result c.cases-test.true c.case-item.is)).0

pub bounds-numbers-case-in-cases : goal.bounds-numbers-case-in-cases
bounds-numbers-case-in-cases c = (c.requires (case_view c.case-item.result) (case_there c.args.list.now c.cases.case-index c.case-item.result c.cases-test.true c.case-item.is)).1

pub returns-then-numbers-case : goal.returns-then-numbers-case
returns-then-numbers-case c = (
  λ t. (case_view c.case-item.result, case_there c.args.list.now c.cases.case-index c.case-item.result c.cases-test.true c.case-item.is, c.if-numbers-case.true),
  λ s. refl,
)

pub cases-preserved : goal.cases-preserved
cases-preserved c =
    let numbers = c.args.numbers.now in
    case_kept (λ (x : Case). slice_index numbers x.from ≡ slice_index numbers x.to → ⊥) c.args.list.now c.cases.case-index c.case-item.result c.cases-test.true c.case-item.is c.cases.invariant c.if-numbers-case.false

pub returns : goal.returns
returns c =
    let numbers = c.args.numbers.now in
    let whole = take_past c.args.list.now c.cases.case-index c.cases-test.false in
    (λ t. absurd cc, λ s. absurd (none_stays numbers c.args.list.now (subst (All (λ (x : Case). slice_index numbers x.from ≡ slice_index numbers x.to → ⊥)) whole c.cases.invariant) s))
