use Rattle.std.proofs.Common.{Ok, Err, subst}
use Rattle.tv_cases.specs.LinearCases.{leaving}
use Rattle.tv_cases.specs.Systems.{cases_of}
use Rattle.tv_cert_reader.specs.Choices.{ReadsChoice, ReadsStops}
use Rattle.tv_cert_reader.proofs.ReadingLemmas.{at_exit}
use Rattle.tv_cert_reader.proofs.ChoiceLemmas.{no_step_stops, covers_fail, covers_read}
use Rattle.tv_cert_reader.proofs.context.Context.no_step.Goals as goal

pub returns-then-not-stop : goal.returns-then-not-stop
returns-then-not-stop c = λ destination old at.
    no_step_stops (cases_of c.args.self.now.about.now) c.args.piece.now c.args.stop destination c.args.known c.args.left old c.args.cursor.now at c.if-not-stop.true

pub returns-in_err-covers : goal.returns-in_err-covers
returns-in_err-covers c = λ destination old at.
    let system = cases_of c.args.self.now.about.now in
    at_exit (ReadsChoice system c.args.piece.now c.args.stop destination c.args.known c.args.left old c.stop_covers.new.cursor) c.from_residual.result c.in_err-covers.field-0.0 c.from_residual.ensures.1
    (covers_fail system c.args.piece.now c.args.stop destination c.args.known c.args.left old c.args.cursor.now at c.if-not-stop.false c.in_err-covers.field-0.0
    (subst (λ l. ReadsStops system.variables c.args.known c.args.left (leaving l system.cases) c.args.cursor.now c.stop_covers.new.cursor (Err c.in_err-covers.field-0.0)) c.location.ensures c.in_err-covers.ensures))

pub returns : goal.returns
returns c = λ destination old at.
    let system = cases_of c.args.self.now.about.now in
    let read = subst (λ l. ReadsStops system.variables c.args.known c.args.left (leaving l system.cases) c.args.cursor.now c.stop_covers.new.cursor (Ok c.in_ok-covers.covers)) c.location.ensures c.in_ok-covers.ensures in
    covers_read system c.args.piece.now c.args.stop destination c.args.known c.args.left old c.args.cursor.now at c.if-not-stop.false
    c.in_ok-covers.covers c.stop_covers.new.cursor read.0 read.1
