use Rattle.std.proofs.Common.{◌∙◌, ◌<◌, ◌≤◌, length, arith, sym, ap, subst, slice_get}
use Rattle.std.proofs.lemmas.List.{length-map}
use Rattle.tv_cases.specs.declared.case.Case.{Case}
use Rattle.tv_cases.specs.Systems.{cases_of}
use Rattle.tv_cases.specs.Views.{case_view}
use Rattle.tv_top.proofs.Drawn.{none_more, none_at_all}
use Rattle.tv_top.proofs.paths.first_drawn.Goals as goal
use Rattle.tv_cases.proofs.LeavingLemmas.{case_at}

pub returns-then-list-number-gt0 : goal.returns-then-list-number-gt0
returns-then-list-number-gt0 c =
    let x = c.index-list-number.result in
    record {
      taken = case_view x;
      there = ap (λ cs. slice_get cs c.cases.number) (sym c.list-list.ensures.same) ∙ case_at c.list-list.result.now c.cases.number x c.cases-test.true c.index-list-number.is;
      draws = subst (λ (y : Case). 0 < y.draws) (sym c.index-list-number.is) c.if-list-number-gt0.true;
    }

pub cases-preserved : goal.cases-preserved
cases-preserved c =
    let x = c.index-list-number.result in
    let h = subst (λ (y : Case). y.draws ≤ 0) (sym c.index-list-number.is) c.if-list-number-gt0.false in
    none_more (cases_of c.args.about.now).cases c.cases.number (case_view x) c.cases.invariant
    (ap (λ cs. slice_get cs c.cases.number) (sym c.list-list.ensures.same) ∙ case_at c.list-list.result.now c.cases.number x c.cases-test.true c.index-list-number.is)
    (omega (arith, h))

pub returns : goal.returns
returns c =
    let e = ap length c.list-list.ensures.same in
    let m = length-map c.list-list.result.now case_view in
    let l = c.cases-test.false in
    none_at_all (cases_of c.args.about.now).cases c.cases.number (omega (arith, e, m, l)) c.cases.invariant
