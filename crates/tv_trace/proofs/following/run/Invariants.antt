use Rattle.tv_program.specs.Programs.{system_of}
use Rattle.tv_cases.specs.Systems.{cases_of}
use Rattle.tv_sound.specs.Following.{Spot, offered, onward}
use Rattle.tv_trace.specs.Steps.{IsAt, TakesOn}
use Rattle.tv_trace.proofs.RunLemmas.{Along}
use Rattle.tv_trace.proofs.following.run.Given as goal

abbrev pub invariant-steps : goal.invariant-steps
invariant-steps l =
    let system = cases_of l.course.about.now in
    let all = offered l.course.pieces.now l.course.proofs.now in
    (s : Spot) → IsAt l.fn.proof l.fn.state s → TakesOn system all s → Along (system_of l.course.program.now) (onward system all) s l.counter l.shown.items l.here.proof.now l.here.state
