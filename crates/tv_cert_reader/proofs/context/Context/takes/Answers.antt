use Rattle.std.proofs.Common.{◌+◌, refl, ◌∙◌, subst}
use Rattle.tv_cases.specs.Systems.{cases_of}
use Rattle.tv_cases.specs.Views.{case_view}
use Rattle.tv_cert_reader.specs.LineGrammar.{many}
use Rattle.tv_cert_reader.specs.declared.number_line.NumberLine.TheVariants.{Draw, By}
use Rattle.tv_cert_reader.specs.NumberLines.{line_with}
use Rattle.tv_cert_reader.specs.Reading.{FailsBy}
use Rattle.tv_cert_reader.specs.Parts.{AreMany, AreNumbers, IsWide, lists_in}
use Rattle.tv_cert_reader.specs.Choices.{ReadsChoice}
use Rattle.tv_cert_reader.proofs.ReadingLemmas.{at_exit}
use Rattle.tv_cert_reader.proofs.ChoiceLemmas.{take_stops, draws_stop, shown_stop, take_read}
use Rattle.tv_cert_reader.proofs.context.Context.takes.Goals as goal

pub returns-in_default : goal.returns-in_default
returns-in_default c = λ left old at.
    take_stops (cases_of c.args.self.now.about.now) c.args.choosing.now.piece.now c.args.choosing.now.stop c.args.choosing.now.destination.now c.args.known left old c.args.cursor.now c.args.numbers.now at c.in_default.ensures

pub returns-in_err-draws : goal.returns-in_err-draws
returns-in_err-draws c = λ left old at.
    let system = cases_of c.args.self.now.about.now in
    let t = c.in-Some.taken in
    at_exit (ReadsChoice system c.args.choosing.now.piece.now c.args.choosing.now.stop c.args.choosing.now.destination.now c.args.known left old c.rows.new.cursor) c.from_residual.result c.in_err-draws.field-0.0 c.from_residual.ensures.1
    (draws_stop system c.args.choosing.now.piece.now c.args.choosing.now.stop c.args.choosing.now.destination.now c.args.known left old c.args.cursor.now c.args.numbers.now at (case_view t.case.now) t.taken t.target t.fall t.owed c.in-Some.ensures c.in_err-draws.field-0.0
    (subst (λ n. FailsBy (many t.case.now.draws (line_with Draw (n + 1))) c.args.cursor.now c.in_err-draws.field-0.0) c.variables-columns.ensures.same c.in_err-draws.ensures))

pub returns-in_err-refutations : goal.returns-in_err-refutations
returns-in_err-refutations c = λ left old at.
    let system = cases_of c.args.self.now.about.now in
    let t = c.in-Some.taken in
    at_exit (ReadsChoice system c.args.choosing.now.piece.now c.args.choosing.now.stop c.args.choosing.now.destination.now c.args.known left old c.lists.new.cursor) c.from_residual-in_err-refutations.result c.in_err-refutations.field-0.0 c.from_residual-in_err-refutations.ensures.1
    (shown_stop system c.args.choosing.now.piece.now c.args.choosing.now.stop c.args.choosing.now.destination.now c.args.known left old c.args.cursor.now c.args.numbers.now at (case_view t.case.now) t.taken t.target t.fall t.owed c.in-Some.ensures
    c.in_ok-draws.draws c.rows.new.cursor (subst (λ n. AreMany (IsWide n) t.case.now.draws c.in_ok-draws.draws.items) c.variables-columns.ensures.same c.in_ok-draws.ensures.0) c.in_ok-draws.ensures.1 c.in_err-refutations.field-0.0
    (subst (λ n. FailsBy (many (n + t.owed) (line_with By (c.args.known + 1))) c.rows.new.cursor c.in_err-refutations.field-0.0) (c.len.ensures ∙ t.case.now.guards.rows.ok.0) c.in_err-refutations.ensures))

pub returns : goal.returns
returns c = λ left old at.
    let system = cases_of c.args.self.now.about.now in
    let t = c.in-Some.taken in
    take_read system c.args.choosing.now.piece.now c.args.choosing.now.stop c.args.choosing.now.destination.now c.args.known left old c.args.cursor.now c.args.numbers.now at (case_view t.case.now) t.taken t.target t.fall t.owed c.in-Some.ensures
    c.in_ok-draws.draws c.rows.new.cursor (subst (λ n. AreMany (IsWide n) t.case.now.draws c.in_ok-draws.draws.items) c.variables-columns.ensures.same c.in_ok-draws.ensures.0) c.in_ok-draws.ensures.1
    c.in_ok-refutations.refutations c.lists.new.cursor (subst (λ n. AreMany (AreNumbers (c.args.known + 1)) (n + t.owed) (lists_in c.in_ok-refutations.refutations)) (c.len.ensures ∙ t.case.now.guards.rows.ok.0) c.in_ok-refutations.ensures.0) c.in_ok-refutations.ensures.1 _ refl
