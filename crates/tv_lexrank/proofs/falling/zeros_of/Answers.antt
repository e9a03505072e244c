use Rattle.std.proofs.Common.{◌∙◌, sym}
use Rattle.tv_linear.proofs.PlainLists.{zeros-are}
use Rattle.tv_lexrank.proofs.falling.zeros_of.Goals as goal

pub returns : goal.returns
returns c = c.in_ok-zeros.ensures.items_if_clones_equal (λ y e. e) ∙ sym (zeros-are c.args.count)
