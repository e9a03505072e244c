use Rattle.std.proofs.Common.{◌∙◌, ◌+◌, ◌++◌, ◌∷◌, [], take, sym, subst, ap}
use Rattle.std.specs.List.{Contains}
use Rattle.tv_simplex.proofs.RowLemmas.{tested_true, tested_false}
use Rattle.tv_farkas.proofs.TakenLemmas.{TakenTo, taken_none, taken_again, taken_first}
use Rattle.tv_farkas.proofs.rows.take_once.Goals.{then-not-again+in_ok-copy+in_ok-push_item-2, else-not-again}
use Rattle.tv_farkas.proofs.rows.take_once.Goals as goal

pub rows-init : goal.rows-init
rows-init c = taken_none c.new-repeated.result.items c.new-kept.result.items c.new-repeated.ensures.items c.new-kept.ensures.items

pub rows-preserved : goal.rows-preserved
rows-preserved c = elim c.if-not-again.branch [
  | then-not-again+in_ok-copy+in_ok-push_item-2 w ↦ (
      let never = tested_false c.is_among-again.result c.is_among-again.ensures w.if-not-again.true in
      let marks = c.in_ok-push_item.ensures ∙ ap (λ b. c.rows.repeated.items ++ b ∷ []) w.if-not-again.true in
      let more = w.in_ok-push_item-2.ensures ∙ ap (λ r. c.rows.kept.items ++ r ∷ []) w.in_ok-copy.ensures in
      subst (λ k. TakenTo (take (c.rows.row-index + 1) c.args.rows.now) c.push_item.new.items.items k.items) (sym w.kept-is)
      (taken_first c.args.rows.now c.rows.row-index c.row-item.result c.rows.repeated.items c.push_item.new.items.items c.rows.kept.items w.push_item-then-not-again.new.items.items c.rows-test.true c.row-item.is marks more (λ h. never (subst (λ k. Contains k c.row-item.result) (sym c.deref.ensures.value) h)) c.rows.invariant))
  | else-not-again w ↦ (
      let among = subst (λ k. Contains k c.row-item.result) c.deref.ensures.value (tested_true c.is_among-again.result c.is_among-again.ensures w.if-not-again.false) in
      let marks = c.in_ok-push_item.ensures ∙ ap (λ b. c.rows.repeated.items ++ b ∷ []) w.if-not-again.false in
      subst (λ k. TakenTo (take (c.rows.row-index + 1) c.args.rows.now) c.push_item.new.items.items k.items) (sym w.kept-is)
      (taken_again c.args.rows.now c.rows.row-index c.row-item.result c.rows.repeated.items c.push_item.new.items.items c.rows.kept.items c.rows-test.true c.row-item.is marks among c.rows.invariant))
]
