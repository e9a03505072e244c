use Rattle.std.proofs.Common.{◌++◌, ◌∷◌, [], ◌∙◌, ap, sym, pos}
use Rattle.tv_linear.proofs.PlainLists.{zeros-are}
use Rattle.tv_pre.proofs.trees.last_line.Goals as goal

pub returns : goal.returns
returns c = c.in_ok-push_item.ensures ∙ ap (λ xs. xs ++ pos 1 ∷ []) (c.in_ok-line.ensures.items_if_clones_equal (λ y e. e) ∙ sym (zeros-are c.args.count))
