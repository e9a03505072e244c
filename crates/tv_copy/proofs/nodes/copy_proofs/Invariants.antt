use Rattle.std.proofs.Common.{take}
use Rattle.std.specs.List.{AllZip}
use Rattle.tv_copy.specs.SameProofs.{SameProof}
use Rattle.tv_copy.proofs.nodes.copy_proofs.Given as goal

abbrev pub invariant-proofs : goal.invariant-proofs
invariant-proofs l = AllZip SameProof (take l.proof-index l.proofs) l.copies.items
