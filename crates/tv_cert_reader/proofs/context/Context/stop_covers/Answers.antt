use Rattle.std.proofs.Common.{◌+◌, [], drop, sym, subst, arith}
use Rattle.std.specs.List.{AllZip, flat_map}
use Rattle.std.proofs.lemmas.List.Elements.{All-contains}
use Rattle.tv_cases.specs.LinearCases.{IsCase, leaving}
use Rattle.tv_cases.specs.Systems.{cases_of}
use Rattle.tv_cases.specs.Views.{case_view}
use Rattle.tv_cases.proofs.LeavingLemmas.{case_within, case_among, first_left, none_left}
use Rattle.tv_cert_reader.specs.CertificateLines.{cover_lines}
use Rattle.tv_cert_reader.specs.Reading.{Takes}
use Rattle.tv_cert_reader.specs.Choices.{IsStop, ReadsStops}
use Rattle.tv_cert_reader.proofs.ReadingLemmas.{at_exit}
use Rattle.tv_cert_reader.proofs.StopLemmas.{stepped_next, stepped_as, stepped_all, stop_fails}
use Rattle.tv_cert_reader.proofs.context.Context.stop_covers.Goals as goal

pub stop_cover-requires-clause-draws : goal.stop_cover-requires-clause-draws
stop_cover-requires-clause-draws c =
    let about = c.args.self.now.about.now in
    let system = cases_of about in
    let case = case_view c.in-Some.case.now in
    (All-contains (IsCase system.variables system.locations) system.cases case about.are_cases.cases (case_among c.args.location system.cases c.cases.k case c.in-Some.ensures.case)).few_draws

pub returns-in_err-cover : goal.returns-in_err-cover
returns-in_err-cover c =
    let system = cases_of c.args.self.now.about.now in
    let all = leaving c.args.location system.cases in
    let case = case_view c.in-Some.case.now in
    at_exit (ReadsStops system.variables c.args.known c.args.left all c.args.cursor.now c.stop_cover.new.cursor) c.from_residual.result c.in_err-cover.field-0.0 c.from_residual.ensures.1
    (stop_fails system.variables c.args.known c.args.left all (drop (c.cases.k + 1) all) (drop c.cases.k all) case c.args.cursor.now c.cases.cursor c.cases.covers.items c.in_err-cover.field-0.0 c.cases.invariant
    (first_left all c.cases.k case c.in-Some.ensures.case) c.in_err-cover.ensures)

pub overflow_add-k : goal.overflow_add-k
overflow_add-k c =
    let below = case_within c.args.location (cases_of c.args.self.now.about.now).cases c.cases.k (case_view c.in-Some.case.now) c.in-Some.ensures.case in
    let bounded = c.in-Some.ensures.bounded in
    omega (arith, below, bounded)

pub cases-smaller : goal.cases-smaller
cases-smaller c =
    let below = case_within c.args.location (cases_of c.args.self.now.about.now).cases c.cases.k (case_view c.in-Some.case.now) c.in-Some.ensures.case in
    omega (arith, below)

pub cases-preserved : goal.cases-preserved
cases-preserved c =
    let system = cases_of c.args.self.now.about.now in
    let all = leaving c.args.location system.cases in
    let case = case_view c.in-Some.case.now in
    stepped_next (IsStop system.variables c.args.known c.args.left) cover_lines all c.args.cursor.now case (drop (c.cases.k + 1) all) (drop c.cases.k all) c.cases.cursor c.stop_cover.new.cursor c.cases.covers.items _ c.in_ok-cover.cover c.cases.invariant
    (first_left all c.cases.k case c.in-Some.ensures.case) c.in_ok-cover.ensures.0 c.in_ok-cover.ensures.1 c.in_ok-push.ensures.items

pub returns : goal.returns
returns c =
    let system = cases_of c.args.self.now.about.now in
    let all = leaving c.args.location system.cases in
    let is = IsStop system.variables c.args.known c.args.left in
    let covers = c.cases.covers.items in
    subst (λ xs. AllZip is all xs × Takes (flat_map cover_lines xs) c.args.cursor.now c.cases.cursor) (sym c.shrink_to_fit.ensures.items)
    (stepped_all is cover_lines all c.args.cursor.now c.cases.cursor covers
    (stepped_as is cover_lines all c.args.cursor.now [] (drop c.cases.k all) c.cases.cursor covers c.cases.invariant (none_left all c.cases.k c.in_default.ensures.case)))
