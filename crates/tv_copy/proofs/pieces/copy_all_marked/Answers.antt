use Rattle.std.proofs.Common.{◌++◌, ◌∷◌, [], sym, ◌∙◌}
use Rattle.tv_linear.proofs.ListLaws.{take_next}
use Rattle.tv_copy.proofs.pieces.copy_all_marked.Goals as goal

pub pieces-preserved : goal.pieces-preserved
pieces-preserved c =
    let piece = c.piece-item.result in
    let more = take_next c.args.pieces.now c.pieces.piece-index piece c.pieces-test.true c.piece-item.is in
    c.in_ok-push_item.ensures ∙ (λ i. c.pieces.invariant i ++ c.in_ok-copy.ensures i ∷ []) ∙ sym more
