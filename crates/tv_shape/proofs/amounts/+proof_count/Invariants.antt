use Rattle.std.proofs.Common.{◌≡◌, ◌+◌, ◌<◌, ◌^◌, drop}
use Rattle.tv_cert.specs.Nodes.{size}
use Rattle.tv_cert.proofs.NodeLemmas.{kids_of}
use Rattle.tv_shape.specs.Amounts.{proofs_below}
use Rattle.tv_shape.proofs.AmountLemmas.{proofs_of_all}
use Rattle.tv_shape.proofs.amounts.+proof_count.Given as goal

abbrev pub decreases-proof_count : goal.decreases-proof_count
decreases-proof_count l = size l.node.now

abbrev pub invariant-loop-child : goal.invariant-loop-child
invariant-loop-child l = (l.count < 2 ^ 64) × (l.count + proofs_of_all (drop l.child-index (kids_of l.node)) ≡ proofs_below l.node)
