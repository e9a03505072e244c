use Rattle.std.proofs.Common.{◌≡◌, ◌≢◌, length}
use Rattle.tv_graph.specs.Marks.{mark_at}
use Rattle.tv_graph.specs.PathSearch.{IsValid, KeepsReached, work}
use Rattle.tv_graph.specs.declared.marks.Mark.TheVariants.{New}
use Rattle.tv_graph.proofs.search.PathSearch.explore.Given as goal

abbrev pub invariant-steps : goal.invariant-steps
invariant-steps l = record {
  valid : IsValid l.arcs l.self;
  nodes : length l.self.marks.items ≡ length l.fn.self.marks.items;
  grows : KeepsReached l.fn.self l.self;
  root : mark_at l.self.marks.items l.root ≢ New;
}

abbrev pub decreases-steps : goal.decreases-steps
decreases-steps l = work l.self
