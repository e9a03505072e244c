use Rattle.std.proofs.Common.{arith, ap, ◌∙◌}
use Rattle.tv_linear.specs.Depth.{splits}
use Rattle.tv_recur.proofs.ChoiceLemmas.{same_depth}
use Rattle.tv_recur.proofs.taking.taken_by.Goals as goal

pub unreachable-requires : goal.unreachable-requires
unreachable-requires c =
    let t = c.args.taking.now in
    let e = same_depth t.number t.place c.deref-2.result.now c.tree.result.now c.in_ok-tree.tree c.in_ok-tree.ensures ∙ ap splits c.tree.ensures.same in
    let s = c.tree.ensures.shallow in
    c.in-None.ensures (omega (arith, e, s))
