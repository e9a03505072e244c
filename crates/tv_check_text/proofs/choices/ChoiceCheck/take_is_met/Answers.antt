use Rattle.std.proofs.Common.{◌≡◌, ◌+◌, ◌++◌, List, Some, length, subst}
use Rattle.tv_linear.specs.Known.{Known}
use Rattle.tv_refute.specs.Frames.{known_at}
use Rattle.tv_cases.specs.Systems.{cases_of}
use Rattle.tv_cases.specs.Views.{case_view}
use Rattle.tv_cert.specs.Choices.{drawn_guards}
use Rattle.tv_cert.specs.OwesViews.{destination_owes}
use Rattle.tv_cert_reader.specs.LineGrammar.{many, by}
use Rattle.tv_cert_reader.specs.declared.number_line.NumberLine.TheVariants.{Draw}
use Rattle.tv_cert_reader.specs.NumberLines.{line_with}
use Rattle.tv_cert_reader.specs.Reading.{FailsBy}
use Rattle.tv_cert_reader.specs.Parts.{AreMany, IsWide}
use Rattle.tv_cert_reader.proofs.ReadingLemmas.{at_exit}
use Rattle.tv_cert_reader.proofs.ChoiceLemmas.{take_stops, draws_stop}
use Rattle.tv_check_text.specs.Checking.{CheckedLists, ChecksChoice}
use Rattle.tv_check_text.proofs.ChoiceLemmas.{rows_fail, take_checked}
use Rattle.tv_check_text.proofs.TreeLemmas.{counted}
use Rattle.tv_check_text.proofs.choices.ChoiceCheck.take_is_met.Goals as goal

pub returns-in_default : goal.returns-in_default
returns-in_default c = λ left old at.
    let s = c.args.self.now in
    take_stops (cases_of s.context.about.now) s.piece.now s.stop s.destination.now (length (known_at c.args.frames.now)) left old c.args.cursor.now c.args.numbers.now at c.in_default.ensures

pub returns-in_err-draws : goal.returns-in_err-draws
returns-in_err-draws c = λ left old at.
    let s = c.args.self.now in
    let system = cases_of s.context.about.now in
    let t = c.in-Some.taken in
    let known = known_at c.args.frames.now in
    at_exit (ChecksChoice system s.piece.now s.stop s.destination.now known left old c.rows.new.cursor) c.from_residual.result c.in_err-draws.field-0.0 c.from_residual.ensures.1
    (draws_stop system s.piece.now s.stop s.destination.now (length known) left old c.args.cursor.now c.args.numbers.now at (case_view t.case.now) t.taken t.target t.fall t.owed c.in-Some.ensures c.in_err-draws.field-0.0
    (subst (λ n. FailsBy (many t.case.now.draws (line_with Draw (n + 1))) c.args.cursor.now c.in_err-draws.field-0.0) c.variables-columns.ensures.same c.in_err-draws.ensures))

pub returns-in_err-shown : goal.returns-in_err-shown
returns-in_err-shown c = λ left old at.
    let s = c.args.self.now in
    let system = cases_of s.context.about.now in
    let t = c.in-Some.taken in
    let case = case_view t.case.now in
    let known = known_at c.args.frames.now in
    let draws = c.in_ok-draws.draws in
    let f = c.in_err-shown.field-0.0 in
    let is = c.in-Some.ensures in
    let o = counted (destination_owes system.variables s.piece.now s.destination.now case draws.items t.target t.fall) t.owed (is.owes draws.items) in
    let fails = subst (λ ds. (rows : List Known) → destination_owes system.variables s.piece.now s.destination.now case ds t.target t.fall ≡ Some rows → FailsBy (many (length (drawn_guards system.variables case ds ++ rows)) (by (length known + 1))) c.rows.new.cursor f) c.deref.ensures.value c.in_err-shown.ensures in
    at_exit (ChecksChoice system s.piece.now s.stop s.destination.now known left old c.is_shown.new.cursor) c.from_residual-in_err-shown.result f c.from_residual-in_err-shown.ensures.1
    (rows_fail system s.piece.now s.stop s.destination.now known left old c.args.cursor.now c.args.numbers.now at case t.taken t.target t.fall t.owed is draws c.rows.new.cursor
    (subst (λ n. AreMany (IsWide n) t.case.now.draws draws.items) c.variables-columns.ensures.same c.in_ok-draws.ensures.0) c.in_ok-draws.ensures.1 o.0 o.1 f (fails o.0 o.1))

pub returns : goal.returns
returns c = λ left old at.
    let s = c.args.self.now in
    let system = cases_of s.context.about.now in
    let t = c.in-Some.taken in
    let case = case_view t.case.now in
    let known = known_at c.args.frames.now in
    let draws = c.in_ok-draws.draws in
    let shown = c.in_ok-shown.shown in
    let is = c.in-Some.ensures in
    let o = counted (destination_owes system.variables s.piece.now s.destination.now case draws.items t.target t.fall) t.owed (is.owes draws.items) in
    let told = subst (λ ds. (rows : List Known) → destination_owes system.variables s.piece.now s.destination.now case ds t.target t.fall ≡ Some rows → CheckedLists system.variables known (drawn_guards system.variables case ds ++ rows) c.rows.new.cursor c.is_shown.new.cursor shown) c.deref.ensures.value c.in_ok-shown.ensures in
    take_checked system s.piece.now s.stop s.destination.now known left old c.args.cursor.now c.args.numbers.now at case t.taken t.target t.fall t.owed is draws c.rows.new.cursor
    (subst (λ n. AreMany (IsWide n) t.case.now.draws draws.items) c.variables-columns.ensures.same c.in_ok-draws.ensures.0) c.in_ok-draws.ensures.1 o.0 o.1 s.context.alloc c.is_shown.new.cursor shown (told o.0 o.1)
