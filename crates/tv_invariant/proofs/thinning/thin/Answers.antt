use Rattle.std.proofs.Common.{◌≡◌, ◌∙◌, ◌∷◌, [], ◌++◌, ap, sym, true, false, get_or, pos, rules}
use Rattle.tv_invariant.proofs.PickLemmas.{picked-none, picked-marked, picked-left}
use Rattle.tv_invariant.proofs.thinning.thin.Goals as goal
use Rattle.tv_invariant.proofs.thinning.thin.Goals.{then-is_picked+in_ok-push, else-is_picked}

pub rows-init : goal.rows-init
rows-init c = c.new-kept.ensures.items ∙ sym (picked-none c.args.marks.now)

pub rows-preserved : goal.rows-preserved
rows-preserved c = elim c.if-is_picked.branch [
  | then-is_picked+in_ok-push w ↦
      let more = picked-marked c.args.marks.now c.args.multipliers.now c.rows.place (pos 0) c.rows-test.true (sym c.is_picked.ensures ∙ w.if-is_picked.true) in
      let put : w.push.new.self.items ≡ c.rows.kept.items ++ get_or c.args.multipliers.now c.rows.place (pos 0) ∷ [] = search rules in
      ap (λ v. v.items) w.kept-is ∙ put ∙ ap (λ ys. ys ++ get_or c.args.multipliers.now c.rows.place (pos 0) ∷ []) c.rows.invariant ∙ sym more
  | else-is_picked w ↦
      let same = picked-left c.args.marks.now c.args.multipliers.now c.rows.place (pos 0) c.rows-test.true (sym c.is_picked.ensures ∙ w.if-is_picked.false) in
      ap (λ v. v.items) w.kept-is ∙ c.rows.invariant ∙ sym same
]
