use Rattle.std.proofs.Common.{◌≡◌, ◌∙◌, ◌<◌, ◌^◌, All, length, ap, sym, subst, arith}
use Rattle.tv_linear.specs.Linear.{columns}
use Rattle.tv_points.specs.PointRows.{point_rows}
use Rattle.tv_points.specs.StatePieces.{rank_rows}
use Rattle.tv_points.proofs.RunMet.{point_wide, point_length, ranks_wide}
use Rattle.tv_points.proofs.pieces.piece_of.Goals as goal

pub unreachable-requires : goal.unreachable-requires
unreachable-requires c =
    let xs = c.args.state.now.values.items in
    let n = c.args.columns in
    let rows_are : c.deref-2.result.now ≡ point_rows xs = c.deref-2.ensures.value ∙ c.in_ok-rows.ensures ∙ ap point_rows c.deref.ensures.value in
    let ranks_are : c.deref-3.result.now ≡ rank_rows n c.args.ends c.args.left = c.deref-3.ensures.value ∙ c.in_ok-ranks.ensures in
    let bounded : length c.deref-2.result.now < 2 ^ 32 = (let a = ap length rows_are in let b = point_length xs in let m = c.requires.point.many in let f = c.requires.bounded in omega (arith, a, b, m, f)) in
    let made = c.in_ok-piece.ensures in
    (rw c.in-None.is at made) (bounded, subst (All (λ r. columns r ≡ n)) (sym rows_are) (point_wide n xs c.requires.point.many), subst (All (λ r. columns r ≡ n)) (sym ranks_are) (ranks_wide n c.args.ends c.args.left))
