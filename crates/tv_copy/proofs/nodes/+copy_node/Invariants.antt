use Rattle.std.proofs.Common.{take}
use Rattle.std.specs.List.{AllZip}
use Rattle.tv_cert.specs.Nodes.{size}
use Rattle.tv_cert.proofs.NodeLemmas.{kids_of}
use Rattle.tv_copy.specs.SameNodes.{SameNode}
use Rattle.tv_copy.proofs.nodes.+copy_node.Given as goal

abbrev pub decreases-copy_node : goal.decreases-copy_node
decreases-copy_node l = size l.node.now

abbrev pub invariant-children : goal.invariant-children
invariant-children l = AllZip SameNode (take l.child-index (kids_of l.node)) l.children.items
