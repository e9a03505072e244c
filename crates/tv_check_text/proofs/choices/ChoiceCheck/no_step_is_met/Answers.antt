use Rattle.std.proofs.Common.{arith, length, subst}
use Rattle.tv_cases.specs.LinearCases.{leaving}
use Rattle.tv_refute.specs.Frames.{known_at}
use Rattle.tv_cases.specs.Systems.{cases_of}
use Rattle.tv_cert.specs.Pieces.{place_of}
use Rattle.tv_cert_reader.proofs.ChoiceLemmas.{no_step_stops}
use Rattle.tv_check_text.specs.Checking.{ChecksStops}
use Rattle.tv_check_text.proofs.ChoiceLemmas.{stops_checks}
use Rattle.tv_cases.proofs.LeavingLemmas.{fewer_leaving}
use Rattle.tv_check_text.proofs.choices.ChoiceCheck.no_step_is_met.Goals as goal

pub returns-then-not-self : goal.returns-then-not-self
returns-then-not-self c = λ old at.
    let s = c.args.self.now in
    no_step_stops (cases_of s.context.about.now) s.piece.now s.stop s.destination.now (length (known_at c.args.frames.now)) c.args.left old c.args.cursor.now at c.if-not-self.true

pub returns : goal.returns
returns c = λ old at.
    let s = c.args.self.now in
    let system = cases_of s.context.about.now in
    let bounded = s.context.about.now.are_cases.few_cases in
    let fewer = fewer_leaving (place_of s.piece.now) system.cases in
    stops_checks system s.piece.now s.stop s.destination.now (known_at c.args.frames.now) c.args.left old c.args.cursor.now at c.if-not-self.false s.context.alloc c.stops_are_met.new.cursor c.stops_are_met.result (omega (arith, bounded, fewer))
    (subst (λ l. ChecksStops system.variables (known_at c.args.frames.now) c.args.left (leaving l system.cases) c.args.cursor.now c.stops_are_met.new.cursor c.stops_are_met.result) c.location-location.ensures c.stops_are_met.ensures)
