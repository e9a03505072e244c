use Rattle.std.proofs.Common.{◌∙◌, ◌++◌, ◌∷◌, [], take, subst, sym, ap, arith}
use Rattle.tv_cases.specs.LinearCases.{leaving}
use Rattle.tv_cases.specs.Systems.{cases_of}
use Rattle.tv_linear.specs.Linear.{IsNarrow}
use Rattle.tv_linear.proofs.ListLaws.{take_past, take_more}
use Rattle.tv_farkas.specs.Trees.{TreeRows}
use Rattle.tv_cases.specs.Views.{case_view}
use Rattle.tv_cases.proofs.LeavingLemmas.{case_within, case_among}
use Rattle.tv_choice.specs.Asked.{query_of}
use Rattle.tv_choice.specs.Stopping.{IsStoppedBy}
use Rattle.tv_choice.proofs.FitLemmas.{among_case, leaving_from}
use Rattle.tv_choice.proofs.StopLemmas.{StopsUpTo, stops_more, all_stopped, leading, tree_narrow}
use Rattle.tv_choice.proofs.stopping.stop.Goals as goal
use Rattle.tv_places.proofs.PlaceLemmas.{past_end}

pub stop_by-requires-clause-case : goal.stop_by-requires-clause-case
stop_by-requires-clause-case c =
    let q = c.args.question.now in
    let about = cases_of q.about.now in
    among_case about.variables about.locations about.cases (case_view c.in-Some.case.now) q.limits.cases (case_among q.location about.cases c.cases.k (case_view c.in-Some.case.now) c.in-Some.ensures.case)

pub stop_by-requires-clause-among : goal.stop_by-requires-clause-among
stop_by-requires-clause-among c =
    let q = c.args.question.now in
    case_among q.location (cases_of q.about.now).cases c.cases.k (case_view c.in-Some.case.now) c.in-Some.ensures.case

pub stop_by-requires-clause-from : goal.stop_by-requires-clause-from
stop_by-requires-clause-from c =
    let q = c.args.question.now in
    leaving_from q.location (cases_of q.about.now).cases c.cases.k (case_view c.in-Some.case.now) c.in-Some.ensures.case

pub returns-in-Ok-Whole-clause-stopped : goal.returns-in-Ok-Whole-clause-stopped
returns-in-Ok-Whole-clause-stopped c =
    let q = c.args.question.now in
    let about = cases_of q.about.now in
    let case = case_view c.in-Some.case.now in
    let start = subst (IsStoppedBy q.columns c.args.rows.now case c.args.left) c.in-Ok-Whole.field-0-is c.in-Ok-Whole.ensures.stopped in
    leading q.columns (query_of q) c.args.rows.now case c.in-Ok-Whole.values.items c.in_ok-from_slice-in-Ok-Whole.field-0.items c.requires.stop
    (case_among q.location about.cases c.cases.k case c.in-Some.ensures.case) (leaving_from q.location about.cases c.cases.k case c.in-Some.ensures.case) start
    (c.in_ok-from_slice-in-Ok-Whole.ensures.items ∙ c.split_at.ensures.front ∙ ap (λ zs. take q.columns zs) c.deref.ensures.value)

pub overflow_add-k : goal.overflow_add-k
overflow_add-k c =
    let q = c.args.question.now in
    let below = case_within q.location (cases_of q.about.now).cases c.cases.k (case_view c.in-Some.case.now) c.in-Some.ensures.case in
    let bounded = c.in-Some.ensures.bounded in
    omega (arith, below, bounded)

pub cases-smaller : goal.cases-smaller
cases-smaller c =
    let q = c.args.question.now in
    let below = case_within q.location (cases_of q.about.now).cases c.cases.k (case_view c.in-Some.case.now) c.in-Some.ensures.case in
    omega (arith, below)

pub cases-preserved : goal.cases-preserved
cases-preserved c =
    let q = c.args.question.now in
    let all = leaving q.location (cases_of q.about.now).cases in
    let case = case_view c.in-Some.case.now in
    let tree = subst (IsStoppedBy q.columns c.args.rows.now case c.args.left) c.in-Ok-Tree.field-0-is c.in-Ok-Tree.ensures.stopped in
    subst (λ cs. StopsUpTo q.columns c.args.rows.now c.args.left cs c.push_item.new.items.items) (sym (take_more all c.cases.k case c.in-Some.ensures.case))
    (subst (λ ts. StopsUpTo q.columns c.args.rows.now c.args.left (take c.cases.k all ++ case ∷ []) ts) (sym c.in_ok-push_item-in-Ok-Tree.ensures)
    (stops_more q.columns c.args.rows.now c.args.left (take c.cases.k all) c.cases.covers.items case c.in-Ok-Tree.cover c.cases.invariant tree (tree_narrow q.columns c.args.rows.now case c.args.left c.in-Ok-Tree.cover tree (subst (TreeRows IsNarrow) c.tree.ensures.same c.narrow_rows.ensures))))

pub returns-clause-stopped : goal.returns-clause-stopped
returns-clause-stopped c =
    let q = c.args.question.now in
    let all = leaving q.location (cases_of q.about.now).cases in
    all_stopped q.columns (query_of q) c.args.rows.now c.args.left c.cases.covers.items c.requires.even
    (subst (λ cs. StopsUpTo q.columns c.args.rows.now c.args.left cs c.cases.covers.items) (take_past all c.cases.k (past_end all c.cases.k c.in_default.ensures.case)) c.cases.invariant)
