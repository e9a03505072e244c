use Rattle.std.proofs.Common.{◌≡◌, ◌++◌, drop}
use Rattle.tv_program.specs.Views.{transitions}
use Rattle.tv_spelling.specs.Programs.{edges_text}
use Rattle.tv_spelling.proofs.programs.append_edges.Given as goal

abbrev pub invariant-loop-edge : goal.invariant-loop-edge
invariant-loop-edge l = l.out.items ++ edges_text l.names l.labels (transitions (drop l.edge-index l.edges)) ≡ l.fn.out.items ++ edges_text l.names l.labels (transitions l.edges)
