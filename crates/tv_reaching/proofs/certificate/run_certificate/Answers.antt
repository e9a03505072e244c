use Rattle.std.specs.Prelude.{List}
use Rattle.std.proofs.lemmas.Result.{MatchResult-weaker}
use Rattle.tv_program.specs.Steps as programs
use Rattle.tv_cases.specs.Systems.{cases_of}
use Rattle.tv_points.specs.Nodes.{reaches}
use Rattle.tv_points.specs.declared.state.State.{State}
use Rattle.tv_reaching.specs.FoundRuns.{first_state, state_at, RunsThrough}
use Rattle.tv_reaching.proofs.CertificateLemmas.{even, comes, starts, made, disproof, refused}
use Rattle.tv_reaching.proofs.certificate.run_certificate.Goals as goal

pub push_steps-requires-clause-even : goal.push_steps-requires-clause-even
push_steps-requires-clause-even c =
    let about = cases_of c.args.about.now in
    even about c.args.found.now.path.now c.args.found.now.draws.now (first_state about c.args.found.now) c.requires.run.run c.requires.run.along

pub reaching_certificate-requires-clause-run : goal.reaching_certificate-requires-clause-run
reaching_certificate-requires-clause-run c =
    let about = cases_of c.args.about.now in
    let first : State = record { location = c.start.result; values = c.in_ok-shortened.field-0 } in
    let m = made about c.args.found.now first c.new-states.result.items c.push_states.new.states.items c.deref.result.now c.new-steps.result.items c.push_steps.new.steps.items c.deref-2.result.now (λ i. state_at (c.start.ensures.same i) (c.in_ok-shortened.ensures i)) c.new-states.ensures.items c.new-steps.ensures.items c.deref.ensures.value c.deref-2.ensures.value c.in-Ok.ensures c.in_ok-push_steps.ensures c.requires.run.run c.requires.run.along in
    comes about c.args.found.now c.requires.run c.deref.result.now c.deref-2.result.now m.parts m.each

pub reaching_certificate-requires-clause-starts : goal.reaching_certificate-requires-clause-starts
reaching_certificate-requires-clause-starts c =
    let about = cases_of c.args.about.now in
    let first : State = record { location = c.start.result; values = c.in_ok-shortened.field-0 } in
    let m = made about c.args.found.now first c.new-states.result.items c.push_states.new.states.items c.deref.result.now c.new-steps.result.items c.push_steps.new.steps.items c.deref-2.result.now (λ i. state_at (c.start.ensures.same i) (c.in_ok-shortened.ensures i)) c.new-states.ensures.items c.new-steps.ensures.items c.deref.ensures.value c.deref-2.ensures.value c.in-Ok.ensures c.in_ok-push_steps.ensures c.requires.run.run c.requires.run.along in
    starts about c.args.found.now c.requires.run c.deref.result.now c.deref-2.result.now m.parts

pub returns-clause-proved : goal.returns-clause-proved
returns-clause-proved c =
    let about = cases_of c.args.about.now in
    let first : State = record { location = c.start.result; values = c.in_ok-shortened.field-0 } in
    let m = made about c.args.found.now first c.new-states.result.items c.push_states.new.states.items c.deref.result.now c.new-steps.result.items c.push_steps.new.steps.items c.deref-2.result.now (λ i. state_at (c.start.ensures.same i) (c.in_ok-shortened.ensures i)) c.new-states.ensures.items c.new-steps.ensures.items c.deref.ensures.value c.deref-2.ensures.value c.in-Ok.ensures c.in_ok-push_steps.ensures c.requires.run.run c.requires.run.along in
    MatchResult-weaker c.reaching_certificate.result c.reaching_certificate.ensures
    (λ x h. disproof about c.args.found.now c.requires.run.run c.deref.result.now c.deref-2.result.now (reaches c.args.found.now.location) x m.parts h)
    (λ _ _. tt)

pub returns-clause-refusals : goal.returns-clause-refusals
returns-clause-refusals c =
    let about = cases_of c.args.about.now in
    let first : State = record { location = c.start.result; values = c.in_ok-shortened.field-0 } in
    MatchResult-weaker c.reaching_certificate.result c.reaching_certificate.ensures (λ _ _. tt)
    (λ x h. λ (run : List programs.State) (along : RunsThrough about c.args.found.now run).
    refused about c.args.found.now run c.deref.result.now c.deref-2.result.now x
    (made about c.args.found.now first c.new-states.result.items c.push_states.new.states.items c.deref.result.now c.new-steps.result.items c.push_steps.new.steps.items c.deref-2.result.now (λ i. state_at (c.start.ensures.same i) (c.in_ok-shortened.ensures i)) c.new-states.ensures.items c.new-steps.ensures.items c.deref.ensures.value c.deref-2.ensures.value c.in-Ok.ensures c.in_ok-push_steps.ensures run along) h)
