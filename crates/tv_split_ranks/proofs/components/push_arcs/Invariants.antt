use Rattle.std.proofs.Common.{All}
use Rattle.tv_graph.specs.Graph.{IsBetween}
use Rattle.tv_split_ranks.proofs.components.push_arcs.Given as goal

abbrev pub invariant-passages : goal.invariant-passages
invariant-passages l = All (IsBetween l.nodes) l.arcs.items
