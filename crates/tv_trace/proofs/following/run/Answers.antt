use Rattle.std.proofs.Common.{◌≡◌, ◌<◌, ◌-◌, ◌+◌, sym, subst, arith}
use Rattle.tv_program.specs.Programs.{system_of}
use Rattle.tv_program.specs.Runs.{follow}
use Rattle.tv_cases.specs.Systems.{cases_of}
use Rattle.tv_sound.specs.Following.{offered, onward}
use Rattle.tv_trace.specs.Tracing.{AreAllShown}
use Rattle.tv_trace.specs.Widths.{step_is_held}
use Rattle.tv_trace.proofs.RunLemmas.{Along, along-first, along-next, all_shown, shown_before, stop_is}
use Rattle.tv_trace.proofs.following.run.Goals as goal

pub steps-init : goal.steps-init
steps-init c s at takes =
    let p = system_of c.args.course.now.program.now in
    let system = cases_of c.args.course.now.about.now in
    let rule = onward system (offered c.args.course.now.pieces.now c.args.course.now.proofs.now) in
    subst (λ xs. Along p rule s 0 xs c.args.proof.now c.args.state) (sym c.new-shown.ensures.items) (along-first p rule s c.args.proof.now c.args.state at)

pub next-requires-clause-stands : goal.next-requires-clause-stands
next-requires-clause-stands c =
    let system = cases_of c.args.course.now.about.now in
    let rule = onward system (offered c.args.course.now.pieces.now c.args.course.now.proofs.now) in
    let f = c.requires.followed in
    record {
      here = follow rule f.here c.steps.counter;
      at = (c.steps.invariant f.here f.at f.takes).at;
      takes = f.takes c.steps.counter;
    }

pub returns-in-Err : goal.returns-in-Err
returns-in-Err c s at takes =
    let p = system_of c.args.course.now.program.now in
    let system = cases_of c.args.course.now.about.now in
    let rule = onward system (offered c.args.course.now.pieces.now c.args.course.now.proofs.now) in
    let n = c.steps.counter in
    let along = c.steps.invariant s at takes in
    let proof = c.steps.here.proof.now in
    let state = c.steps.here.state in
    stop_is p rule s c.args.count (step_is_held p (follow rule s n)) c.in-Err.fault _ c.stopped.result
    (c.in-Err.ensures (follow rule s n) along.at (takes n)) c.stopped.ensures
    (λ wide. shown_before p rule s n c.steps.shown.items proof state along c.args.count c.steps-test.true wide)

pub steps-preserved : goal.steps-preserved
steps-preserved c s at takes =
    let p = system_of c.args.course.now.program.now in
    let system = cases_of c.args.course.now.about.now in
    let rule = onward system (offered c.args.course.now.pieces.now c.args.course.now.proofs.now) in
    let n = c.steps.counter in
    let along = c.steps.invariant s at takes in
    let done = c.in-Ok.ensures (follow rule s n) along.at (takes n) in
    subst (λ xs. Along p rule s (n + 1) xs c.in-Ok.further.proof.now c.in-Ok.further.state) (sym c.in_ok-push-in-Ok.ensures.items)
    (along-next p rule s n c.steps.shown.items c.steps.here.proof.now c.steps.here.state along c.in-Ok.further.proof.now c.in-Ok.further.state done.0 done.1)

pub returns : goal.returns
returns c s at takes =
    let p = system_of c.args.course.now.program.now in
    let system = cases_of c.args.course.now.about.now in
    let rule = onward system (offered c.args.course.now.pieces.now c.args.course.now.proofs.now) in
    let n = c.steps.counter in
    let along = c.steps.invariant s at takes in
    let some : 0 < c.args.count = omega arith in
    let last : n ≡ c.args.count - 1 = omega arith in
    subst (AreAllShown p rule s c.args.count) (sym c.in_ok-push.ensures.items)
    (all_shown p rule s n c.steps.shown.items c.steps.here.proof.now c.steps.here.state along c.args.count some last)
