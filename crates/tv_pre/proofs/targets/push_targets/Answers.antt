use Rattle.std.proofs.Common.{◌∙◌, ◌++◌, ◌∷◌, [], take, sym, ap}
use Rattle.std.proofs.lemmas.List.{append_assoc, map_push}
use Rattle.tv_cover.specs.Targets.{lists_of}
use Rattle.tv_linear.specs.declared.region.Poly.{Poly}
use Rattle.tv_region.proofs.RegionLemmas.{lists_at-here, lists_at-there}
use Rattle.tv_region.specs.Regions.{lists_at}
use Rattle.tv_pre.proofs.targets.push_targets.Goals.{then-piece-location+in_ok-push_copies+in_ok-push_item, else-piece-location}
use Rattle.tv_pre.proofs.targets.push_targets.Goals as goal

pub pieces-preserved : goal.pieces-preserved
pieces-preserved c = elim c.if-piece-location.branch [
  | then-piece-location+in_ok-push_copies+in_ok-push_item w ↦ (
      let made = w.in_ok-push_copies.ensures.copied ∙ (λ i. w.new-rows.ensures.items i ++ w.deref.ensures.value i) in
      let old = lists_of c.args.targets.now.items in
      (λ i. lists_of (w.targets-is i).items)
      ∙ ap lists_of w.in_ok-push_item.ensures
      ∙ map_push (λ (t : Poly). t.rows.items) c.pieces.targets.items record { columns = c.piece-item.result.poly.columns; rows = w.push_copies.new.list }
      ∙ (λ i. c.pieces.invariant i ++ made i ∷ [])
      ∙ append_assoc old (lists_at c.args.location (take c.pieces.piece-index c.args.pieces.now)) (c.piece-item.result.poly.rows.items ∷ [])
      ∙ ap (λ ls. old ++ ls) (sym (lists_at-here c.args.location c.args.pieces.now c.pieces.piece-index c.piece-item.result c.pieces-test.true c.piece-item.is w.if-piece-location.true)))
  | else-piece-location w ↦ (
      (λ i. lists_of (w.targets-is i).items)
      ∙ c.pieces.invariant
      ∙ ap (λ ls. lists_of c.args.targets.now.items ++ ls) (sym (lists_at-there c.args.location c.args.pieces.now c.pieces.piece-index c.piece-item.result c.pieces-test.true c.piece-item.is w.if-piece-location.false)))
]
