use Rattle.std.proofs.Common.{ℕ, List, vec_len}
use Rattle.tv_graph.specs.Stacks.{Has, Cuts}
use Rattle.tv_graph.proofs.search.cut.Given as goal

abbrev pub invariant-cut : goal.invariant-cut
invariant-cut l = record {
  bottom : Has l.boundaries.items 0;
  cuts : (ys : List ℕ) → Cuts l.place l.boundaries.items ys → Cuts l.place l.fn.boundaries.items ys;
}

abbrev pub decreases-cut : goal.decreases-cut
decreases-cut l = vec_len l.boundaries
