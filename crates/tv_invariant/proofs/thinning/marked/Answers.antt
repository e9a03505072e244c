use Rattle.std.proofs.Common.{◌≡◌, ◌∙◌, ◌∷◌, [], ◌++◌, ap, sym, true, false, get_or}
use Rattle.tv_invariant.proofs.PickLemmas.{picked-none, picked-marked, picked-left}
use Rattle.tv_invariant.proofs.thinning.marked.Goals as goal
use Rattle.tv_invariant.proofs.thinning.marked.Goals.{then-is_picked+in_ok-copy+in_ok-push_item, else-is_picked}

pub rows-init : goal.rows-init
rows-init c = c.new-kept.ensures.items ∙ sym (picked-none c.args.marks.now)

pub rows-preserved : goal.rows-preserved
rows-preserved c =
    let row = c.index-rows-place.result in
    let is : c.index-rows-place.result ≡ get_or c.args.rows.now c.rows.place row = c.index-rows-place.is in
    elim c.if-is_picked.branch [
      | then-is_picked+in_ok-copy+in_ok-push_item w ↦
          let more = picked-marked c.args.marks.now c.args.rows.now c.rows.place row c.rows-test.true (sym c.is_picked.ensures ∙ w.if-is_picked.true) in
          let put = w.in_ok-push_item.ensures in
          let copied = w.in_ok-copy.ensures in
          ap (λ v. v.items) w.kept-is ∙ put ∙ ap (λ ys. c.rows.kept.items ++ ys ∷ []) (copied ∙ is) ∙ ap (λ ys. ys ++ get_or c.args.rows.now c.rows.place row ∷ []) c.rows.invariant ∙ sym more
      | else-is_picked w ↦
          let same = picked-left c.args.marks.now c.args.rows.now c.rows.place row c.rows-test.true (sym c.is_picked.ensures ∙ w.if-is_picked.false) in
          ap (λ v. v.items) w.kept-is ∙ c.rows.invariant ∙ sym same
    ]
