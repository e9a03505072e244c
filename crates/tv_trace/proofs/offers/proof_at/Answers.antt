use Rattle.std.proofs.Common.{sym, ap, ◌∙◌, ◌+◌}
use Rattle.std.specs.Prelude.{slice_get}
use Rattle.tv_trace.proofs.OfferLemmas.{offers_from, proof_within, offer_later, offer_elsewhere}
use Rattle.tv_trace.proofs.offers.proof_at.Goals as goal
use Rattle.tv_trace.proofs.offers.proof_at.Goals.{then-location+else-left-eq0, else-location}

pub loop-i-preserved : goal.loop-i-preserved
loop-i-preserved c =
    let ps = c.args.pieces.now in
    let proofs = c.args.proofs.now in
    let l = c.args.location in
    let i = c.loop-i.i in
    let left = c.loop-i.left in
    let p = c.index-pieces-i.result in
    let below = c.loop-i-test.true in
    let is = c.index-pieces-i.is in
    let within = proof_within ps proofs l i left c.requires.0 (c.loop-i.invariant ∙ c.requires.1) in
    elim c.if-location.branch [
      | then-location+else-left-eq0 w ↦ ap (slice_get (offers_from ps proofs l (i + 1))) w.left-is ∙ sym (offer_later ps proofs l i left p below is within (sym c.location.ensures ∙ w.if-location.true) w.if-left-eq0.false) ∙ c.loop-i.invariant
      | else-location w ↦ ap (slice_get (offers_from ps proofs l (i + 1))) w.left-is ∙ sym (offer_elsewhere ps proofs l i left p below is within (λ e. w.if-location.false (c.location.ensures ∙ e))) ∙ c.loop-i.invariant
    ]
