use Rattle.std.proofs.Common.{◌≡◌, Option}
use Rattle.std.specs.Prelude.{slice_get}
use Rattle.tv_cert.specs.declared.node.Marked.{Marked}
use Rattle.tv_cert.specs.declared.node.Proof.{Proof}
use Rattle.tv_sound.specs.Following.{offered, offered_at}
use Rattle.tv_trace.proofs.OfferLemmas.{offers_from}
use Rattle.tv_trace.proofs.offers.proof_at.Given as goal

abbrev pub invariant-loop-i : goal.invariant-loop-i
invariant-loop-i l = ◌≡◌ {A = Option (Marked × Proof)} (slice_get (offers_from l.pieces l.proofs l.location l.i) l.left) (slice_get (offered_at (offered l.pieces l.proofs) l.location) l.k)
