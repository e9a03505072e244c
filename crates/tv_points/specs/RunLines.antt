-- The lines of a run.
use Rattle.std.specs.Prelude.{ℕ, ◌+◌, List, [], ◌∷◌, ◌++◌, Bool, slice_get, Option, None, Some}
use Rattle.tv_cases.specs.LinearCases.{CaseSystem}
use Rattle.tv_points.specs.Lines.{Line, lines_at}
use Rattle.tv_points.specs.StatePieces.{piece_there}
use Rattle.tv_points.specs.Taking.{step_rows}
use Rattle.tv_points.specs.declared.state.State.{State}
use Rattle.tv_points.specs.declared.step.Step.{Step}

-- the lines of a step from the state at a place to another
abbrev pub lines_between : CaseSystem → Bool → List State → ℕ → Step → Option State → Option State → List Line
lines_between about ends states place step None t = []
lines_between about ends states place step (Some s) None = []
lines_between about ends states place step (Some s) (Some t) =
    lines_at s.values.items (step_rows about ends step (piece_there about.variables ends states place s) (piece_there about.variables ends states step.next t))

abbrev pub step_lines : CaseSystem → Bool → List State → ℕ → Step → List Line
step_lines about ends states place step = lines_between about ends states place step (slice_get states place) (slice_get states step.next)

-- the lines of the steps of a list, from a place on
abbrev pub run_lines : CaseSystem → Bool → List State → ℕ → List Step → List Line
run_lines about ends states place [] = []
run_lines about ends states place (step ∷ steps) = step_lines about ends states place step ++ run_lines about ends states (place + 1) steps
