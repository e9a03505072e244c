use Rattle.std.proofs.Common.{refl, [], ◌∷◌}
use Rattle.tv_refute.specs.Built.{change_of}
use Rattle.tv_linear.specs.Views.{row_seen}
use Rattle.tv_points.specs.Entering.{less_row, not_below_row, fall_rows}
use Rattle.tv_points.proofs.PushLemmas.{then_pushed, then_fault}
use Rattle.tv_points.proofs.falls.push_fall.Goals as goal

pub returns-in-Err : goal.returns-in-Err
returns-in-Err c =
    let change = change_of c.args.change.now in
    then_fault c.args.point.now (less_row change (row_seen c.args.old) (row_seen c.args.new) ∷ []) (not_below_row (row_seen c.args.old) ∷ []) (fall_rows change (row_seen c.args.old) (row_seen c.args.new)) c.in-Err.fault refl c.in-Err.ensures

pub returns-in-Ok : goal.returns-in-Ok
returns-in-Ok c =
    let change = change_of c.args.change.now in
    then_pushed c.args.point.now (less_row change (row_seen c.args.old) (row_seen c.args.new) ∷ []) (not_below_row (row_seen c.args.old) ∷ []) (fall_rows change (row_seen c.args.old) (row_seen c.args.new)) _ _ _ c.push_not_below.result refl c.in-Ok.ensures c.push_not_below.ensures
