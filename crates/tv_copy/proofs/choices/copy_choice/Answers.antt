use Rattle.std.proofs.Common.{ap, arith}
use Rattle.tv_linear.specs.ChoiceDepth.{choice_splits}
use Rattle.tv_copy.proofs.ChoiceLaws.{choice_splits_same}
use Rattle.tv_copy.proofs.choices.copy_choice.Goals as goal

pub unreachable-requires : goal.unreachable-requires
unreachable-requires c =
    let same = choice_splits_same c.tree.result.now c.in_ok-copy_tree.field-0 c.in_ok-copy_tree.ensures in
    let whole = ap choice_splits c.tree.ensures.same in
    let shallow = c.tree.ensures.shallow in
    c.in-None.ensures (omega (arith, same, whole, shallow))
