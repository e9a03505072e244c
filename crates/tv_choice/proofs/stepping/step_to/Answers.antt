use Rattle.std.proofs.Common.{◌≡◌, ◌∙◌, ◌+◌, ◌++◌, subst, sym, ap}
use Rattle.std.specs.Prelude.{All}
use Rattle.tv_linear.specs.Linear.{columns as width}
use Rattle.tv_cover.specs.Emptying.{HasNoWholePoint, IsEmptied, GivesWhole}
use Rattle.tv_cases.specs.Views.{case_view}
use Rattle.tv_choice.specs.Asked.{query_of}
use Rattle.tv_choice.specs.Leading.{piece_rows}
use Rattle.tv_choice.specs.Rows.{fixes, IsWideBefore}
use Rattle.tv_choice.specs.Refusals.{IsWideHere}
use Rattle.tv_choice.specs.Ways.{AreCaseRows, IsUnmade}
use Rattle.tv_choice.specs.Stepping.{IsWayAt, IsWideAtPoint}
use Rattle.tv_choice.proofs.PieceLemmas.{piece_got}
use Rattle.tv_choice.proofs.FitLemmas.{piece_even}
use Rattle.tv_choice.proofs.WayLemmas.{asked_even, unmade_more}
use Rattle.tv_choice.proofs.DrawLemmas.{entry_wide}
use Rattle.tv_choice.proofs.StepLemmas.{asked_inner, no_step, wide_there, stepping_way}
use Rattle.tv_choice.proofs.RefusalLemmas.{inner_fault, unmade_fault}
use Rattle.tv_choice.proofs.stepping.step_to.Goals as goal

pub case_rows-requires-clause-owed : goal.case_rows-requires-clause-owed
case_rows-requires-clause-owed c =
    let q = c.args.question.now in
    let e = c.args.entry.now in
    let got = piece_got q.pieces.now e.case.now.to e.target e.piece.now c.requires.entered.target in
    subst (λ rs. All (λ r. width r ≡ q.columns) rs) (sym c.deref.ensures.value) (piece_even q.columns q.pieces.now e.piece.now q.even got.1)

pub returns-in-Err-clause-refusals : goal.returns-in-Err-clause-refusals
returns-in-Err-clause-refusals c =
    let q = c.args.question.now in
    let e = c.args.entry.now in
    let above = c.args.standing.now.rows.now in
    unmade_fault q.columns (query_of q) above q.pivots c.args.standing.now.left c.in-Err.fault
    (unmade_more (IsWideBefore (case_view e.case.now) (piece_rows e.piece.now)) (IsWideHere q.columns (query_of q) above) c.in-Err.fault (entry_wide q.columns (query_of q) above e c.requires.entered)
    (subst (λ rs. IsUnmade (IsWideBefore (case_view e.case.now) rs) c.in-Err.fault) c.deref.ensures.value c.in-Err.ensures.refusals))

pub empty-requires-clause-even : goal.empty-requires-clause-even
empty-requires-clause-even c =
    let n = c.args.question.now.columns in
    let e = c.args.entry.now in
    let case = case_view e.case.now in
    let xs = c.args.standing.now.point.now in
    let stored = c.in-Ok.rows.items in
    let asked = c.deref-3.ensures.value ∙ c.in_ok-all.ensures ∙ ap (λ rs. fixes (n + e.case.now.draws) 0 xs ++ rs) c.deref-2.ensures.value in
    subst (λ rs. All (λ r. width r ≡ n + e.case.now.draws) rs) (sym asked) (asked_even n case c.deref.result.now stored xs c.in-Ok.ensures.rows)

pub returns-in-Err-empty-clause-refusals : goal.returns-in-Err-empty-clause-refusals
returns-in-Err-empty-clause-refusals c =
    let q = c.args.question.now in
    let n = q.columns in
    let e = c.args.entry.now in
    let case = case_view e.case.now in
    let s = c.args.standing.now in
    let stored = c.in-Ok.rows.items in
    let rows = subst (λ os. AreCaseRows n case os stored) c.deref.ensures.value c.in-Ok.ensures.rows in
    let got = piece_got q.pieces.now e.case.now.to e.target e.piece.now c.requires.entered.target in
    let owed = piece_even n q.pieces.now e.piece.now q.even got.1 in
    let asked = c.deref-3.ensures.value ∙ c.in_ok-all.ensures ∙ ap (λ rs. fixes (n + e.case.now.draws) 0 s.point.now ++ rs) c.deref-2.ensures.value in
    inner_fault n (query_of q) s.rows.now c.deref-3.result.now (n + e.case.now.draws) q.pivots s.left c.in-Err-empty.fault
    (asked_inner n (query_of q) s.rows.now e c.requires.entered stored rows owed s.point.now c.requires.standing.size c.requires.standing.here c.deref-3.result.now asked) c.in-Err-empty.ensures.refusals

pub returns-in-Ok-Tree : goal.returns-in-Ok-Tree
returns-in-Ok-Tree c =
    let q = c.args.question.now in
    let n = q.columns in
    let e = c.args.entry.now in
    let case = case_view e.case.now in
    let s = c.args.standing.now in
    let stored = c.in-Ok.rows.items in
    let rows = subst (λ os. AreCaseRows n case os stored) c.deref.ensures.value c.in-Ok.ensures.rows in
    let got = piece_got q.pieces.now e.case.now.to e.target e.piece.now c.requires.entered.target in
    let owed = piece_even n q.pieces.now e.piece.now q.even got.1 in
    let asked = c.deref-3.ensures.value ∙ c.in_ok-all.ensures ∙ ap (λ rs. fixes (n + e.case.now.draws) 0 s.point.now ++ rs) c.deref-2.ensures.value in
    let none = subst (HasNoWholePoint (n + e.case.now.draws) c.deref-3.result.now) c.in-Ok-Tree.field-0-is c.in-Ok-Tree.ensures.none in
    record { step = no_step n (query_of q) s.rows.now e c.requires.entered stored rows owed s.point.now c.requires.standing.size c.requires.standing.here c.deref-3.result.now asked none; refusals = tt }

pub returns-in-Err-way_at-clause-refusals : goal.returns-in-Err-way_at-clause-refusals
returns-in-Err-way_at-clause-refusals c =
    let q = c.args.question.now in
    let n = q.columns in
    let e = c.args.entry.now in
    let case = case_view e.case.now in
    let s = c.args.standing.now in
    let stored = c.in-Ok.rows.items in
    let zs = c.in-Ok-Whole.values.items in
    let rows = subst (λ os. AreCaseRows n case os stored) c.deref.ensures.value c.in-Ok.ensures.rows in
    let got = piece_got q.pieces.now e.case.now.to e.target e.piece.now c.requires.entered.target in
    let owed = piece_even n q.pieces.now e.piece.now q.even got.1 in
    let asked = c.deref-3.ensures.value ∙ c.in_ok-all.ensures ∙ ap (λ rs. fixes (n + e.case.now.draws) 0 s.point.now ++ rs) c.deref-2.ensures.value in
    let origin = subst (GivesWhole (n + e.case.now.draws) c.deref-3.result.now) c.in-Ok-Whole.field-0-is c.in-Ok-Whole.ensures.first in
    let wide = wide_there n (query_of q) s.rows.now e c.requires.entered stored rows owed s.point.now c.requires.standing.size c.requires.standing.here c.deref-3.result.now zs in
    let there = subst (λ ys. IsUnmade (IsWideAtPoint n e.case.now.draws stored ys) c.in-Err-way_at.fault) c.deref-in-Ok-Whole-2.ensures.value
    (subst (λ rs. IsUnmade (IsWideAtPoint n e.case.now.draws rs c.deref-in-Ok-Whole-2.result.now) c.in-Err-way_at.fault) c.deref-in-Ok-Whole.ensures.value c.in-Err-way_at.ensures.refusals) in
    unmade_fault n (query_of q) s.rows.now q.pivots s.left c.in-Err-way_at.fault
    (unmade_more (IsWideAtPoint n e.case.now.draws stored zs) (IsWideHere n (query_of q) s.rows.now) c.in-Err-way_at.fault (λ column. wide column asked origin) there)

pub returns-clause-step : goal.returns-clause-step
returns-clause-step c =
    let q = c.args.question.now in
    let n = q.columns in
    let e = c.args.entry.now in
    let case = case_view e.case.now in
    let s = c.args.standing.now in
    let stored = c.in-Ok.rows.items in
    let zs = c.in-Ok-Whole.values.items in
    let rows = subst (λ os. AreCaseRows n case os stored) c.deref.ensures.value c.in-Ok.ensures.rows in
    let got = piece_got q.pieces.now e.case.now.to e.target e.piece.now c.requires.entered.target in
    let owed = piece_even n q.pieces.now e.piece.now q.even got.1 in
    let asked = c.deref-3.ensures.value ∙ c.in_ok-all.ensures ∙ ap (λ rs. fixes (n + e.case.now.draws) 0 s.point.now ++ rs) c.deref-2.ensures.value in
    let origin = subst (GivesWhole (n + e.case.now.draws) c.deref-3.result.now) c.in-Ok-Whole.field-0-is c.in-Ok-Whole.ensures.first in
    let answers = subst (IsEmptied (n + e.case.now.draws) c.deref-3.result.now) c.in-Ok-Whole.field-0-is c.in-Ok-Whole.ensures.answers in
    let made = subst (λ ys. IsWayAt n e.case.now.draws e.taken e.target stored ys c.in-Ok-way_at.way) c.deref-in-Ok-Whole-2.ensures.value
    (subst (λ rs. IsWayAt n e.case.now.draws e.taken e.target rs c.deref-in-Ok-Whole-2.result.now c.in-Ok-way_at.way) c.deref-in-Ok-Whole.ensures.value c.in-Ok-way_at.ensures.way) in
    stepping_way n (query_of q) s.rows.now e c.requires.entered stored rows owed s.point.now c.requires.standing.size c.requires.standing.here c.deref-3.result.now zs c.in-Ok-way_at.way asked answers origin made
