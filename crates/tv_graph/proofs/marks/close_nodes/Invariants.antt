use Rattle.std.proofs.Common.{◌≡◌, ◌≤◌, length, take, vec_len}
use Rattle.std.specs.Prelude.{sum_by}
use Rattle.tv_graph.specs.Marks.{mark_at, unseen, Closes}
use Rattle.tv_graph.proofs.marks.close_nodes.Given as goal

abbrev pub invariant-nodes : goal.invariant-nodes
invariant-nodes l = record {
  inside : l.place ≤ length l.path.items;
  path : l.path.items ≡ take (length l.path.items) l.fn.path.items;
  closing : Closes (mark_at l.fn.marks.items) (mark_at l.marks.items) (length l.path.items) l.number;
  nodes : length l.marks.items ≡ length l.fn.marks.items;
  unseen : sum_by unseen l.marks.items ≡ sum_by unseen l.fn.marks.items;
}

abbrev pub decreases-nodes : goal.decreases-nodes
decreases-nodes l = vec_len l.path
