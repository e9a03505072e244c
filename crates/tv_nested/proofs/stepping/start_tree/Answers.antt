use Rattle.std.proofs.Common.{refl}
use Rattle.tv_lexrank.specs.declared.falling.Fall.{Fall}
use Rattle.tv_nested.proofs.ChangedLemmas.{start_met}
use Rattle.tv_nested.proofs.stepping.start_tree.Goals as goal

pub returns : goal.returns
returns c =
    let fall : Fall = record { number = 0; lines = c.new.result } in
    start_met c.args.variables c.args.signs.now fall c.in_ok-tree.tree c.requires.even c.requires.few refl c.new.ensures.items c.in_ok-tree.ensures
