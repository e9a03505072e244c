use Rattle.std.proofs.Common.{◌≡◌, ℕ, ◌<◌, length, get_or}
use Rattle.tv_graph.specs.Arcs.{IsPastLast, from_at}
use Rattle.tv_graph.proofs.adjacency.AdjacencyLists.new.Given as goal

abbrev pub invariant-arcs : goal.invariant-arcs
invariant-arcs l = record {
  nodes : length l.latest.items ≡ l.fn.nodes;
  many : length l.earlier.items ≡ l.a;
  latest : (u : ℕ) → u < l.fn.nodes → IsPastLast l.arcs u l.a (get_or l.latest.items u 0);
  earlier : (a : ℕ) → a < l.a → IsPastLast l.arcs (from_at l.arcs a) a (get_or l.earlier.items a 0);
}
