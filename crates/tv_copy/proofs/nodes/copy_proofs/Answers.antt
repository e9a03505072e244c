use Rattle.tv_copy.specs.SameProofs.{SameProof}
use Rattle.tv_copy.proofs.Carrying.{zipped_more}
use Rattle.tv_copy.proofs.nodes.copy_proofs.Goals as goal

pub proofs-preserved : goal.proofs-preserved
proofs-preserved c =
    zipped_more SameProof c.args.proofs.now c.proofs.copies.items c.push_item.new.items.items c.proofs.proof-index c.proof-item.result c.in_ok-copy_proof.field-0
    c.proofs-test.true c.proof-item.is c.proofs.invariant c.in_ok-copy_proof.ensures c.in_ok-push_item.ensures
