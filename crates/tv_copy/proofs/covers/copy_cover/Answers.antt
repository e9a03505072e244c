use Rattle.std.proofs.Common.{ap, arith}
use Rattle.tv_linear.specs.Depth.{splits}
use Rattle.tv_copy.proofs.CoverLaws.{cover_splits}
use Rattle.tv_copy.proofs.covers.copy_cover.Goals as goal

pub unreachable-requires : goal.unreachable-requires
unreachable-requires c =
    let same = cover_splits c.tree.result.now c.in_ok-copy_tree.field-0 c.in_ok-copy_tree.ensures in
    let whole = ap splits c.tree.ensures.same in
    let shallow = c.tree.ensures.shallow in
    c.in-None.ensures (omega (arith, same, whole, shallow))
