use Rattle.std.proofs.Common.{◌↔◌, IsTrue, arith}
use Rattle.std.proofs.lemmas.List.Elements.{All-contains}
use Rattle.tv_refute.specs.Frames.{known_at}
use Rattle.tv_cases.specs.LinearCases.{IsCase, leaving}
use Rattle.tv_cases.specs.Systems.{cases_of}
use Rattle.tv_cases.specs.Views.{case_view}
use Rattle.tv_cases.proofs.LeavingLemmas.{case_among, case_within}
use Rattle.tv_cert_reader.proofs.ReadingLemmas.{at_exit}
use Rattle.tv_check_text.specs.Checking.{ChecksStops}
use Rattle.tv_check_text.proofs.ShownLemmas.{joined_true, joined_false}
use Rattle.tv_check_text.proofs.StopLemmas.{stops_fail, stops_next, stops_end}
use Rattle.tv_check_text.proofs.choices.stops_are_met.Goals as goal
use Rattle.tv_check_text.proofs.choices.stops_are_met.Goals.{then-met, else-met}

pub stop_is_met-requires-clause-draws : goal.stop_is_met-requires-clause-draws
stop_is_met-requires-clause-draws c =
    let system = cases_of c.args.context.now.about.now in
    let case = case_view c.in-Some.case.now in
    (All-contains (IsCase system.variables system.locations) system.cases case c.args.context.now.about.now.are_cases.cases (case_among c.args.location system.cases c.cases.k case c.in-Some.ensures.case)).few_draws

pub returns-in_err-stuck : goal.returns-in_err-stuck
returns-in_err-stuck c =
    let system = cases_of c.args.context.now.about.now in
    let known = known_at c.args.frames.now in
    let all = leaving c.args.location system.cases in
    let f = c.in_err-stuck.field-0.0 in
    at_exit (ChecksStops system.variables known c.args.left all c.args.cursor.now c.stop_is_met.new.cursor) c.from_residual.result f c.from_residual.ensures.1
    (stops_fail system.variables known c.args.left all c.args.cursor.now c.cases.k c.cases.cursor c.cases.met c.cases.invariant (case_view c.in-Some.case.now) c.in-Some.ensures.case f c.in_err-stuck.ensures)

pub overflow_add-k : goal.overflow_add-k
overflow_add-k c =
    let system = cases_of c.args.context.now.about.now in
    let below = case_within c.args.location system.cases c.cases.k (case_view c.in-Some.case.now) c.in-Some.ensures.case in
    let bounded = c.in-Some.ensures.bounded in
    omega (arith, below, bounded)

pub cases-smaller : goal.cases-smaller
cases-smaller c =
    let system = cases_of c.args.context.now.about.now in
    let below = case_within c.args.location system.cases c.cases.k (case_view c.in-Some.case.now) c.in-Some.ensures.case in
    omega (arith, below)

pub cases-preserved : goal.cases-preserved
cases-preserved c =
    let system = cases_of c.args.context.now.about.now in
    let known = known_at c.args.frames.now in
    let all = leaving c.args.location system.cases in
    let stuck = c.in_ok-stuck.stuck in
    let both : IsTrue c.if-met.met ↔ (IsTrue c.cases.met × IsTrue c.in_ok-stuck.stuck) = elim c.if-met.branch [
      | then-met w ↦ joined_true c.cases.met stuck c.if-met.met w.if-met.true w.met-is
      | else-met w ↦ joined_false c.cases.met stuck c.if-met.met w.if-met.false w.met-is
    ] in
    stops_next system.variables known c.args.left all c.args.cursor.now c.cases.k c.cases.cursor c.cases.met c.cases.invariant (case_view c.in-Some.case.now) c.in-Some.ensures.case c.stop_is_met.new.cursor stuck c.if-met.met c.in_ok-stuck.ensures both

pub returns : goal.returns
returns c =
    let system = cases_of c.args.context.now.about.now in
    stops_end system.variables (known_at c.args.frames.now) c.args.left (leaving c.args.location system.cases) c.args.cursor.now c.cases.k c.cases.cursor c.cases.met c.cases.invariant c.in_default.ensures.case
