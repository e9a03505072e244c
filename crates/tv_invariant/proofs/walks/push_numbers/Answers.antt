use Rattle.tv_invariant.proofs.RunLemmas.{drawn_none}
use Rattle.tv_invariant.proofs.walks.push_numbers.Goals as goal

pub numbers-init : goal.numbers-init
numbers-init c = drawn_none c.args.list.now.items
