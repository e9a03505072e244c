use Rattle.std.proofs.Common.{◌≡◌, ◌∙◌, ◌+◌, All, subst, sym, arith}
use Rattle.tv_linear.specs.Linear.{columns as width}
use Rattle.tv_cases.specs.Views.{case_view}
use Rattle.tv_choice.specs.Leading.{piece_rows}
use Rattle.tv_choice.specs.Rows.{case_rows, put_terms, AreRead, ArePut, IsWideBefore}
use Rattle.tv_choice.specs.Targets.{draw_choices, AreMadeInto, IsFirstWidePut, IsWideInto, reading, putting}
use Rattle.tv_cover.specs.Targets.{IsNarrowRow}
use Rattle.std.proofs.lemmas.List.Elements.{All-nil}
use Rattle.tv_choice.specs.Ways.{AreCaseRows, IsUnmade}
use Rattle.tv_choice.proofs.PieceLemmas.{piece_got}
use Rattle.tv_choice.proofs.FitLemmas.{piece_even}
use Rattle.tv_choice.proofs.WayLemmas.{unmade_more, if_ok, if_err}
use Rattle.tv_choice.proofs.DrawLemmas.{no_choices}
use Rattle.tv_choice.proofs.ways.push_ways.Goals as goal

pub case_rows-requires-clause-owed : goal.case_rows-requires-clause-owed
case_rows-requires-clause-owed c =
    let q = c.args.question.now in
    let e = c.args.entry.now in
    let got = piece_got q.pieces.now e.case.now.to e.target e.piece.now c.requires.entered.target in
    subst (λ rs. All (λ r. width r ≡ q.columns) rs) (sym c.deref.ensures.value) (piece_even q.columns q.pieces.now e.piece.now q.even got.1)

pub returns-in-Err-clause-refusals : goal.returns-in-Err-clause-refusals
returns-in-Err-clause-refusals c =
    let q = c.args.question.now in
    let e = c.args.entry.now in
    let case = case_view e.case.now in
    unmade_more (IsWideBefore case (piece_rows e.piece.now)) (IsWideInto q.columns case e.piece.now) c.in-Err.fault (λ column w. reading w)
    (subst (λ rs. IsUnmade (IsWideBefore case rs) c.in-Err.fault) c.deref.ensures.value c.in-Err.ensures.refusals)

pub returns-in_ok-choices-in-Ok-clause-fits : goal.returns-in_ok-choices-in-Ok-clause-fits
returns-in_ok-choices-in-Ok-clause-fits c =
    let n = c.args.question.now.columns in
    let e = c.args.entry.now in
    let case = case_view e.case.now in
    let rows = subst (λ os. AreCaseRows n case os c.in-Ok.rows.items) c.deref.ensures.value c.in-Ok.ensures.rows in
    let is = c.deref-in-Ok-2.ensures.value in
    let read = subst (AreRead case) c.deref.ensures.value c.in-Ok.ensures.fits in
    if_ok _ (AreMadeInto n case e.piece.now) c.push_drawn.result (λ h. record { read = λ k. read; put = subst (λ rs. All (λ draws. ArePut (put_terms n draws) rs) (draw_choices case.draws n rs)) (is ∙ rows.exact) h }) c.push_drawn.ensures.fits

pub returns-in_ok-choices-in-Ok-clause-refusals : goal.returns-in_ok-choices-in-Ok-clause-refusals
returns-in_ok-choices-in-Ok-clause-refusals c =
    let n = c.args.question.now.columns in
    let e = c.args.entry.now in
    let case = case_view e.case.now in
    let rows = subst (λ os. AreCaseRows n case os c.in-Ok.rows.items) c.deref.ensures.value c.in-Ok.ensures.rows in
    let is = c.deref-in-Ok-2.ensures.value in
    let read = subst (AreRead case) c.deref.ensures.value c.in-Ok.ensures.fits in
    let even = subst (All (λ r. width r ≡ n + case.draws)) rows.exact rows.even in
    let narrow = subst (All IsNarrowRow) rows.exact rows.narrow in
    if_err _ (IsWideInto n case e.piece.now) c.push_drawn.result (λ column h. putting read even narrow (subst (λ rs. IsFirstWidePut n rs column (draw_choices case.draws n rs)) (is ∙ rows.exact) h)) c.push_drawn.ensures.refusals

pub returns-then-case-gt1-clause-fits : goal.returns-then-case-gt1-clause-fits
returns-then-case-gt1-clause-fits c =
    let n = c.args.question.now.columns in
    let e = c.args.entry.now in
    let case = case_view e.case.now in
    let more = c.if-case-gt1.true in
    record {
      read = λ k. absurd (omega (arith, k, more));
      put = subst (All (λ draws. ArePut (put_terms n draws) (case_rows case (piece_rows e.piece.now)))) (sym (no_choices n case.draws (case_rows case (piece_rows e.piece.now)) more)) (All-nil (λ draws. ArePut (put_terms n draws) (case_rows case (piece_rows e.piece.now))));
    }
