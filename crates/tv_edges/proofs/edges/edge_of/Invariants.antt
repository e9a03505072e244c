use Rattle.std.proofs.Common.{◌≡◌, ◌+◌, length, drop}
use Rattle.tv_program.specs.Programs.{system_of}
use Rattle.tv_program.specs.Views.{transitions}
use Rattle.tv_edges.specs.Edges.{edge_at}
use Rattle.tv_edges.proofs.EdgeLemmas.{Left}
use Rattle.tv_edges.proofs.edges.edge_of.Given as goal

abbrev pub invariant-loop-number : goal.invariant-loop-number
invariant-loop-number l = record {
  at : edge_at (length l.program.variables) (system_of l.program).edges l.taken ≡ l.number + edge_at (length l.program.variables) (transitions (drop l.number l.edges)) l.left;
  left : Left (length l.program.variables) (transitions (drop l.number l.edges)) l.left;
}
