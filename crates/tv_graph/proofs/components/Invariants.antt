use Rattle.std.proofs.Common.{◌≡◌, length}
use Rattle.tv_graph.specs.Marks.{AreReached}
use Rattle.tv_graph.specs.PathSearch.{IsValid}
use Rattle.tv_graph.proofs.components.Given as goal

abbrev pub invariant-roots : goal.invariant-roots
invariant-roots l = record {
  valid : IsValid l.arcs l.search;
  rests : length l.search.path.items ≡ 0;
  nodes : length l.search.marks.items ≡ l.nodes;
  reached : AreReached l.root l.search.marks.items;
}
