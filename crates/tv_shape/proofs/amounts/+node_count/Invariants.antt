use Rattle.std.proofs.Common.{◌≡◌, ◌+◌, ◌<◌, ◌^◌, drop}
use Rattle.tv_cert.specs.Nodes.{size}
use Rattle.tv_cert.proofs.NodeLemmas.{kids_of, sizes_list}
use Rattle.tv_shape.proofs.amounts.+node_count.Given as goal

abbrev pub decreases-node_count : goal.decreases-node_count
decreases-node_count l = size l.node.now

abbrev pub invariant-loop-child : goal.invariant-loop-child
invariant-loop-child l = (l.count < 2 ^ 32) × (l.count + sizes_list (drop l.child-index (kids_of l.node)) ≡ size l.node)
