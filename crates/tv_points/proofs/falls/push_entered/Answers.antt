use Rattle.std.proofs.Common.{All, map, sym, ap, subst, ◌++◌}
use Rattle.tv_refute.specs.Built.{change_of}
use Rattle.tv_linear.specs.Views.{rows_seen}
use Rattle.tv_points.specs.Lines.{IsShowable}
use Rattle.tv_points.specs.Entering.{owed_falls, entering_rows}
use Rattle.tv_points.proofs.PushLemmas.{then_pushed, then_fault}
use Rattle.tv_points.proofs.falls.push_entered.Goals as goal
use Rattle.tv_linear.proofs.ListLaws.{all_back, all_front}

pub push_lines-requires-clause-showable : goal.push_lines-requires-clause-showable
push_lines-requires-clause-showable c =
    let e = c.args.entering.now in
    let change = change_of e.change.now in
    subst (λ rs. All (IsShowable c.args.point.now) (map change rs)) (sym c.rows.ensures) (all_front (IsShowable c.args.point.now) (map change e.into.now.rows) (owed_falls e) c.requires.showable)

pub push_owed-requires-clause-showable : goal.push_owed-requires-clause-showable
push_owed-requires-clause-showable c =
    let e = c.args.entering.now in
    all_back (IsShowable c.args.point.now) (map (change_of e.change.now) e.into.now.rows) (owed_falls e) c.requires.showable

pub returns-in-Err : goal.returns-in-Err
returns-in-Err c =
    let e = c.args.entering.now in
    let change = change_of e.change.now in
    then_fault c.args.point.now (map change (rows_seen c.rows.result)) (owed_falls e) (entering_rows e) c.in-Err.fault (ap (λ rs. map change rs ++ owed_falls e) (sym c.rows.ensures)) c.in-Err.ensures

pub returns-in-Ok : goal.returns-in-Ok
returns-in-Ok c =
    let e = c.args.entering.now in
    let change = change_of e.change.now in
    then_pushed c.args.point.now (map change (rows_seen c.rows.result)) (owed_falls e) (entering_rows e) _ _ _ c.push_owed.result (ap (λ rs. map change rs ++ owed_falls e) (sym c.rows.ensures)) c.in-Ok.ensures c.push_owed.ensures
