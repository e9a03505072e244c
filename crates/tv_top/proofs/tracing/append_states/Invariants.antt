use Rattle.std.proofs.Common.{◌≡◌, ◌++◌, drop}
use Rattle.tv_program.specs.Programs.{system_of}
use Rattle.tv_top.specs.Traces.{state_lines}
use Rattle.tv_top.proofs.tracing.append_states.Given as goal

abbrev pub invariant-loop-number : goal.invariant-loop-number
invariant-loop-number l =
    l.out.items ++ state_lines (system_of l.program).locations l.number (drop l.number l.shown) ≡ l.initial.out.items ++ state_lines (system_of l.program).locations 0 l.shown
