use Rattle.std.proofs.Common.{◌≡◌, ◌∙◌, ◌+◌, ◌++◌, drop, ap, sym, subst, arith, All, []}
use Rattle.std.specs.Prelude.{slice_get}
use Rattle.tv_cases.specs.LinearCases.{leaving}
use Rattle.tv_cases.specs.Systems.{cases_of}
use Rattle.tv_cases.specs.Views.{case_view, case_views}
use Rattle.tv_choice.specs.Asked.{query_of}
use Rattle.tv_choice.specs.Leading.{pieces_at}
use Rattle.tv_choice.specs.Targets.{targets_from, IsFirstWideInto, IsFirstWideFrom, IsWideTarget}
use Rattle.tv_choice.specs.Ways.{lists_of, IsWay}
use Rattle.tv_choice.proofs.FitLemmas.{is_case}
use Rattle.tv_choice.proofs.DrawLemmas.{cases_next, cases_skip, cases_done, case_left, case_skipped, case_wide}
use Rattle.tv_choice.proofs.WayLemmas.{unmade_more}
use Rattle.tv_choice.proofs.ways.first_ways.Goals.{then-case-question+in-Ok, else-case-question}
use Rattle.tv_choice.proofs.ways.first_ways.Goals as goal
use Rattle.tv_cases.proofs.LeavingLemmas.{case_at}

pub push_case-requires-clause-case : goal.push_case-requires-clause-case
push_case-requires-clause-case c =
    let about = cases_of c.args.question.now.about.now in
    let got = case_at c.list-cases.result.now c.cases.taken c.index-cases-taken.result c.cases-test.true c.index-cases-taken.is in
    is_case about.variables about.locations about.cases c.cases.taken (case_view c.index-cases-taken.result) c.list-cases.ensures.limits.cases
    (ap (λ cs. slice_get cs c.cases.taken) (sym c.list-cases.ensures.same) ∙ got)

pub returns : goal.returns
returns c =
    let q = c.args.question.now in
    let done = cases_done q.columns q.pieces.now q.location c.list-cases.result.now c.cases.taken _ (lists_of c.cases.ways.items) (let t = c.cases-test.false in omega (arith, t)) c.cases.invariant.1 in
    record { ways = c.cases.invariant.0; lists = done ∙ ap (λ cs. targets_from q.columns q.pieces.now (leaving q.location cs)) c.list-cases.ensures.same; refusals = tt }

pub returns-in-Err-clause-refusals : goal.returns-in-Err-clause-refusals
returns-in-Err-clause-refusals c =
    let q = c.args.question.now in
    let n = q.columns in
    let cs = c.list-cases.result.now in
    let case = c.index-cases-taken.result in
    let wide = case_wide n q.pieces.now q.location cs c.cases.taken case (leaving q.location (case_views cs)) c.cases-test.true c.index-cases-taken.is c.if-case-question.true c.cases.invariant.2 in
    unmade_more (λ column. IsFirstWideInto n (case_view case) column (pieces_at q.pieces.now case.to)) (IsWideTarget n (query_of q)) c.in-Err.fault
    (λ column w. subst (IsFirstWideFrom n q.pieces.now column) (ap (leaving q.location) c.list-cases.ensures.same) (wide column w)) c.in-Err.ensures.refusals

pub cases-preserved : goal.cases-preserved
cases-preserved c =
    let q = c.args.question.now in
    let n = q.columns in
    let cs = c.list-cases.result.now in
    let i = c.cases.taken in
    let case = c.index-cases-taken.result in
    let all = targets_from n q.pieces.now (leaving q.location (case_views cs)) in
    elim c.if-case-question.branch [
      | then-case-question+in-Ok w ↦ (
        subst (λ ws. All (IsWay n (query_of q) []) ws.items) (sym w.ways-is) w.in-Ok.ensures.ways,
        subst (λ ws. all ≡ lists_of ws.items ++ targets_from n q.pieces.now (leaving q.location (case_views (drop (i + 1) cs)))) (sym w.ways-is)
            (cases_next n q.pieces.now q.location cs i case all (lists_of c.cases.ways.items) _ c.cases-test.true c.index-cases-taken.is w.if-case-question.true w.in-Ok.ensures.lists c.cases.invariant.1),
        case_left n q.pieces.now q.location cs i case (leaving q.location (case_views cs)) c.cases-test.true c.index-cases-taken.is w.if-case-question.true w.in-Ok.ensures.fits c.cases.invariant.2,
      )
      | else-case-question w ↦ (
        subst (λ ws. All (IsWay n (query_of q) []) ws.items) (sym w.ways-is) c.cases.invariant.0,
        subst (λ ws. all ≡ lists_of ws.items ++ targets_from n q.pieces.now (leaving q.location (case_views (drop (i + 1) cs)))) (sym w.ways-is)
            (cases_skip n q.pieces.now q.location cs i case all (lists_of c.cases.ways.items) c.cases-test.true c.index-cases-taken.is w.if-case-question.false c.cases.invariant.1),
        case_skipped n q.pieces.now q.location cs i case (leaving q.location (case_views cs)) c.cases-test.true c.index-cases-taken.is w.if-case-question.false c.cases.invariant.2,
      )
    ]
