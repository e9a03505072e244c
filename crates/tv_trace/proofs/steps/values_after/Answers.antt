use Rattle.std.proofs.Common.{◌∙◌, length, Err, ap}
use Rattle.tv_program.specs.Programs.{system_of}
use Rattle.tv_cases.specs.Systems.{cases_of}
use Rattle.tv_trace.proofs.StepLemmas.{edge_within, draws_counted, all_held, runs_to, not_blocked}
use Rattle.tv_trace.proofs.steps.values_after.Goals as goal

pub exec_values-requires-clause-among : goal.exec_values-requires-clause-among
exec_values-requires-clause-among c =
    let program = c.args.course.now.program.now in
    let system = cases_of c.args.course.now.about.now in
    edge_within (system_of program) system c.requires.cases program.within_limits c.args.values.now c.args.take.now.taken c.args.take.now.draws.now c.requires.enabled.0 c.requires.enabled.1
    c.edge_of-edge.result (c.edge_of-edge.ensures.of system.cases c.requires.cases.cases)

pub exec_values-requires-clause-draws : goal.exec_values-requires-clause-draws
exec_values-requires-clause-draws c =
    let program = c.args.course.now.program.now in
    let system = cases_of c.args.course.now.about.now in
    ap length (c.deref.ensures.value ∙ c.in_ok-drawn.ensures.1)
    ∙ draws_counted (system_of program) system c.requires.cases program.within_limits c.args.values.now c.args.take.now.taken c.args.take.now.draws.now c.requires.enabled.0 c.requires.enabled.1
    c.edge_of-edge.result (c.edge_of-edge.ensures.of system.cases c.requires.cases.cases)

pub returns-in-Ok : goal.returns-in-Ok
returns-in-Ok c case enabled =
    let program = c.args.course.now.program.now in
    let p = system_of program in
    let system = cases_of c.args.course.now.about.now in
    let xs = c.args.values.now in
    let take = c.args.take.now in
    let edge = c.edge_of-edge.result in
    let of = c.edge_of-edge.ensures.of system.cases c.requires.cases.cases in
    let same = c.deref.ensures.value ∙ c.in_ok-drawn.ensures.1 in (
      all_held p system c.requires.cases program.within_limits xs take.taken take.draws.now case enabled edge of c.deref.result.now same c.in-Ok.next.items c.edge_of-edge.ensures.at c.in_ok-drawn.ensures.0 c.in-Ok.ensures.outcome,
      runs_to p system c.requires.cases program.within_limits xs take.taken take.draws.now case enabled edge of c.deref.result.now same c.in-Ok.next.items c.in-Ok.ensures.executed,
    )

pub unreachable-requires : goal.unreachable-requires
unreachable-requires c =
    let program = c.args.course.now.program.now in
    let p = system_of program in
    let system = cases_of c.args.course.now.about.now in
    let take = c.args.take.now in
    let same = c.deref.ensures.value ∙ c.in_ok-drawn.ensures.1 in
    let blocked = c.in-Err-Blocked.is ∙ ap Err c.in-Err-Blocked.field-0-is in
    not_blocked p system c.requires.cases program.within_limits c.args.values.now take.taken take.draws.now c.requires.enabled.0 c.requires.enabled.1 c.edge_of-edge.result
    (c.edge_of-edge.ensures.of system.cases c.requires.cases.cases) c.deref.result.now same (c.exec_values.ensures.blocked blocked)
