use Rattle.std.proofs.Common.{◌≡◌, ◌+◌, ◌++◌, drop}
use Rattle.tv_cert_spelling.specs.Spelling.{all_spelled}
use Rattle.tv_cert.specs.Nodes.{size}
use Rattle.tv_cert.proofs.NodeLemmas.{sizes_list}
use Rattle.tv_cert_spelling.proofs.NodeLines.{kids_with}
use Rattle.tv_cert_spelling.proofs.nodes.+append_node.Given as goal

abbrev pub decreases-append_node : goal.decreases-append_node
decreases-append_node l = size l.node.now

abbrev pub invariant-loop-child : goal.invariant-loop-child
invariant-loop-child l =
    (l.out.items ++ all_spelled (kids_with (drop l.count l.kinds) (drop l.child-index l.child-items)) ≡ l.initial.out.items ++ all_spelled (kids_with (drop 1 l.kinds) l.child-items))
    × (l.count + sizes_list (drop l.child-index l.child-items) ≡ 1 + sizes_list l.child-items)
