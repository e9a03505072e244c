use Rattle.std.proofs.Common.{◌≡◌, ◌++◌, length, drop}
use Rattle.tv_program.specs.Programs.{system_of}
use Rattle.tv_program.specs.Views.{transitions}
use Rattle.tv_finitely.specs.Splits.{edge_marks}
use Rattle.tv_finitely.proofs.Marked.{marks_from}
use Rattle.tv_finitely.proofs.marks.marks.Given as goal

abbrev pub invariant-loop-edge : goal.invariant-loop-edge
invariant-loop-edge l = l.marks.items ++ marks_from l.enters (length (system_of l.program).variables) (transitions (drop l.edge-index l.edges)) ≡ edge_marks (length (system_of l.program).variables) (transitions l.edges)
