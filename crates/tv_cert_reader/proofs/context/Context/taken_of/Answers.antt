use Rattle.std.proofs.Common.{[], length, refl, sym, ◌∙◌}
use Rattle.std.proofs.lemmas.Option.{slice_get_past, slice_get_read}
use Rattle.tv_cases.specs.Systems.{cases_of}
use Rattle.tv_cases.specs.Views.{case_view}
use Rattle.tv_cert.specs.Choices.{drawn_change}
use Rattle.tv_cert.specs.OwesViews.{destination_owes}
use Rattle.tv_cert.proofs.TargetLemmas.{counts_as}
use Rattle.tv_cert_reader.proofs.TakenLemmas.{no_numbers, no_case, not_from, no_target, is_taken}
use Rattle.tv_cert_reader.proofs.context.Context.taken_of.Goals as goal

pub returns-in_err-taken : goal.returns-in_err-taken
returns-in_err-taken c = rw c.from_residual.ensures (no_numbers (cases_of c.args.self.now.about.now) c.args.piece.now c.args.destination.now c.args.numbers.now c.requires c.list-list.ensures.limits.few_cases c.in_err-taken.ensures)

pub returns-in_err-case : goal.returns-in_err-case
returns-in_err-case c =
    rw c.from_residual-in_err-case.ensures (no_case (cases_of c.args.self.now.about.now) c.args.piece.now c.args.destination.now c.args.numbers.now c.requires c.list-list.result.now c.list-list.ensures.same c.in_ok-taken.taken c.in_ok-taken.target c.in_ok-taken.fall c.in_ok-taken.ensures (slice_get_past c.list-list.result.now c.in_ok-taken.taken c.in_err-case.ensures.lookup.3))

pub returns-then-case-location : goal.returns-then-case-location
returns-then-case-location c =
    let system = cases_of c.args.self.now.about.now in
    not_from system c.args.piece.now c.args.destination.now c.args.numbers.now c.requires c.list-list.result.now c.list-list.ensures.same c.in_ok-taken.taken c.in_ok-taken.target c.in_ok-taken.fall c.in_ok-taken.ensures c.in_ok-case.case.now (slice_get_read c.list-list.result.now (length c.list-list.result.now) c.in_ok-taken.taken c.in_ok-case.case.now refl c.in_ok-case.ensures.lookup.3.0 c.in_ok-case.ensures.lookup.1)
    (λ e. c.if-case-location.true (e ∙ sym c.location.ensures))

pub returns-in_err-owed : goal.returns-in_err-owed
returns-in_err-owed c =
    let system = cases_of c.args.self.now.about.now in
    rw c.from_residual-in_err-owed.ensures (no_target system c.args.piece.now c.args.destination.now c.args.numbers.now c.requires c.list-list.result.now c.list-list.ensures.same c.in_ok-taken.taken c.in_ok-taken.target c.in_ok-taken.fall c.in_ok-taken.ensures c.in_ok-case.case.now (slice_get_read c.list-list.result.now (length c.list-list.result.now) c.in_ok-taken.taken c.in_ok-case.case.now refl c.in_ok-case.ensures.lookup.3.0 c.in_ok-case.ensures.lookup.1)
    (sym (counts_as (drawn_change system.variables (case_view c.in_ok-case.case.now) []) c.targets_after.result (destination_owes system.variables c.args.piece.now c.args.destination.now (case_view c.in_ok-case.case.now) []) (c.targets_after.ensures.owed system.variables []) c.in_ok-taken.target c.in_ok-taken.fall) ∙ sym c.in_err-owed.ensures))

pub returns : goal.returns
returns c =
    let system = cases_of c.args.self.now.about.now in
    is_taken system c.args.piece.now c.args.destination.now c.args.numbers.now c.requires c.list-list.result.now c.list-list.ensures.same c.in_ok-taken.taken c.in_ok-taken.target c.in_ok-taken.fall c.in_ok-taken.ensures c.in_ok-case.case.now (slice_get_read c.list-list.result.now (length c.list-list.result.now) c.in_ok-taken.taken c.in_ok-case.case.now refl c.in_ok-case.ensures.lookup.3.0 c.in_ok-case.ensures.lookup.1)
    (c.if-case-location.false ∙ c.location.ensures) c.in_ok-owed.owed
    (λ draws. sym (counts_as (drawn_change system.variables (case_view c.in_ok-case.case.now) draws) c.targets_after.result (destination_owes system.variables c.args.piece.now c.args.destination.now (case_view c.in_ok-case.case.now) draws) (c.targets_after.ensures.owed system.variables draws) c.in_ok-taken.target c.in_ok-taken.fall) ∙ sym c.in_ok-owed.ensures)
