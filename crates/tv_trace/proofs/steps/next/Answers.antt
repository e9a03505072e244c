use Rattle.std.proofs.Common.{◌≡◌, ◌∙◌, ap, sym, subst, refl, true}
use Rattle.tv_program.specs.Programs.{system_of}
use Rattle.tv_cases.specs.Systems.{cases_of}
use Rattle.tv_cases.specs.Views.{case_view}
use Rattle.tv_sound.specs.Following.{Spot, TakesAt, offered, onward}
use Rattle.tv_trace.specs.Steps.{IsStepFault, IsAt}
use Rattle.tv_trace.specs.Widths.{step_is_held}
use Rattle.tv_trace.proofs.StepLemmas.{ends_there, not_held, enabled_as, number_within, offered_as, refused, went_on, seen_as}
use Rattle.tv_trace.proofs.steps.next.Goals as goal

pub take_at-requires : goal.take_at-requires
take_at-requires c =
    let here = c.args.here.now in
    let all = offered c.args.course.now.pieces.now c.args.course.now.proofs.now in
    let system = cases_of c.args.course.now.about.now in
    let h = c.requires.stands in
    let now = c.as_slice-now.result.now in
    let t = subst (TakesAt system all) (seen_as here.proof.now here.state h.here now h.at c.as_slice-now.ensures.value) h.takes in
    ends_there (system_of c.args.course.now.program.now) system all h.here.piece here.proof.now here.state.location now t

pub returns-in-None : goal.returns-in-None
returns-in-None c s at takes =
    let here = c.args.here.now in
    let p = system_of c.args.course.now.program.now in
    let all = offered c.args.course.now.pieces.now c.args.course.now.proofs.now in
    let system = cases_of c.args.course.now.about.now in
    let now = c.as_slice-now.result.now in
    let seen = seen_as here.proof.now here.state s now at c.as_slice-now.ensures.value in
    let t = subst (TakesAt system all) seen takes in
    ap (step_is_held p) seen
    ∙ not_held p system all s.piece here.proof.now here.state.location now t (c.in-None.ensures (ends_there p system all s.piece here.proof.now here.state.location now t))

pub values_after-requires-clause-enabled : goal.values_after-requires-clause-enabled
values_after-requires-clause-enabled c =
    let here = c.args.here.now in
    let p = system_of c.args.course.now.program.now in
    let all = offered c.args.course.now.pieces.now c.args.course.now.proofs.now in
    let system = cases_of c.args.course.now.about.now in
    let h = c.requires.stands in
    let now = c.as_slice-now.result.now in
    let t = subst (TakesAt system all) (seen_as here.proof.now here.state h.here now h.at c.as_slice-now.ensures.value) h.takes in
    let took = c.in-Some.ensures (ends_there p system all h.here.piece here.proof.now here.state.location now t) in
    let take = c.in-Some.take in
    (t.taken, enabled_as p system all h.here.piece here.proof.now here.state.location now t take.taken take.target take.draws.now took.1 took.2 took.3)

pub case_at-requires : goal.case_at-requires
case_at-requires c =
    let here = c.args.here.now in
    let p = system_of c.args.course.now.program.now in
    let all = offered c.args.course.now.pieces.now c.args.course.now.proofs.now in
    let system = cases_of c.args.course.now.about.now in
    let h = c.requires.stands in
    let now = c.as_slice-now.result.now in
    let t = subst (TakesAt system all) (seen_as here.proof.now here.state h.here now h.at c.as_slice-now.ensures.value) h.takes in
    let took = c.in-Some.ensures (ends_there p system all h.here.piece here.proof.now here.state.location now t) in
    let take = c.in-Some.take in
    number_within p system all h.here.piece here.proof.now here.state.location now t take.taken take.target take.draws.now took.1 took.2 took.3

pub proof_at-requires : goal.proof_at-requires
proof_at-requires c =
    let here = c.args.here.now in
    let p = system_of c.args.course.now.program.now in
    let all = offered c.args.course.now.pieces.now c.args.course.now.proofs.now in
    let system = cases_of c.args.course.now.about.now in
    let h = c.requires.stands in
    let now = c.as_slice-now.result.now in
    let t = subst (TakesAt system all) (seen_as here.proof.now here.state h.here now h.at c.as_slice-now.ensures.value) h.takes in
    let took = c.in-Some.ensures (ends_there p system all h.here.piece here.proof.now here.state.location now t) in
    let take = c.in-Some.take in
    offered_as p system all h.here.piece here.proof.now here.state.location now t take.taken take.target take.draws.now took.1 took.2 took.3 (case_view c.case_at.result.now) c.case_at.ensures

pub returns-in-Err : goal.returns-in-Err
returns-in-Err c s at takes =
    let here = c.args.here.now in
    let p = system_of c.args.course.now.program.now in
    let all = offered c.args.course.now.pieces.now c.args.course.now.proofs.now in
    let system = cases_of c.args.course.now.about.now in
    let now = c.as_slice-now.result.now in
    let seen = seen_as here.proof.now here.state s now at c.as_slice-now.ensures.value in
    let t = subst (TakesAt system all) seen takes in
    let took = c.in-Some.ensures (ends_there p system all s.piece here.proof.now here.state.location now t) in
    let take = c.in-Some.take in
    let enabled = enabled_as p system all s.piece here.proof.now here.state.location now t take.taken take.target take.draws.now took.1 took.2 took.3 in
    subst (λ (x : Spot). IsStepFault (step_is_held p x) c.in-Err.fault) (sym seen)
    (refused p system all s.piece here.proof.now here.state.location now t take.taken take.target take.draws.now took.1 took.2 took.3 took.0 c.in-Err.fault (c.in-Err.ensures t.taken enabled))

pub returns-in-Ok : goal.returns-in-Ok
returns-in-Ok c s at takes =
    let here = c.args.here.now in
    let p = system_of c.args.course.now.program.now in
    let all = offered c.args.course.now.pieces.now c.args.course.now.proofs.now in
    let system = cases_of c.args.course.now.about.now in
    let now = c.as_slice-now.result.now in
    let seen = seen_as here.proof.now here.state s now at c.as_slice-now.ensures.value in
    let t = subst (TakesAt system all) seen takes in
    let took = c.in-Some.ensures (ends_there p system all s.piece here.proof.now here.state.location now t) in
    let take = c.in-Some.take in
    let enabled = enabled_as p system all s.piece here.proof.now here.state.location now t take.taken take.target take.draws.now took.1 took.2 took.3 in
    let after = c.in-Ok.ensures t.taken enabled in
    subst (λ (x : Spot). (step_is_held p x ≡ true) × IsAt c.proof_at.result.now (record { location = c.case_at.result.now.to; values = c.in-Ok.values }) (onward system all x)) (sym seen)
    (went_on p system all s.piece here.proof.now here.state.location now t take.taken take.target take.draws.now took.1 took.2 took.3 (case_view c.case_at.result.now) c.case_at.ensures
    took.0 after.0 c.in-Ok.values.items after.1 c.proof_at.result.now c.proof_at.ensures (record { location = c.case_at.result.now.to; values = c.in-Ok.values }) refl refl)
