use Rattle.std.proofs.Common.{map, ap, subst, All, ◌∷◌, [], rules}
use Rattle.std.proofs.lemmas.List.Elements.{All-head, All-tail}
use Rattle.tv_refute.specs.Built.{change_of}
use Rattle.tv_linear.specs.Views.{row_seen, rows_seen}
use Rattle.tv_points.specs.Lines.{IsShowable}
use Rattle.tv_points.proofs.PushLemmas.{then_pushed, then_fault}
use Rattle.tv_points.proofs.lines.+push_lines.Goals as goal

pub push_changed-requires-clause-showable : goal.push_changed-requires-clause-showable
push_changed-requires-clause-showable t c =
    let change = change_of c.args.change.now in
    All-head (IsShowable c.args.point.now) (change (row_seen c.in-Some.row)) (map change (rows_seen c.in-Some.rest)) (subst (λ rs. All (IsShowable c.args.point.now) (map change rs)) c.in-Some.ensures c.requires.showable)

pub push_lines-requires : goal.push_lines-requires
push_lines-requires t c =
    let change = change_of c.args.change.now in
    (search rules, (search rules, All-tail (IsShowable c.args.point.now) (change (row_seen c.in-Some.row)) (map change (rows_seen c.in-Some.rest)) (subst (λ rs. All (IsShowable c.args.point.now) (map change rs)) c.in-Some.ensures c.requires.showable)))

pub returns-in-Err : goal.returns-in-Err
returns-in-Err t c =
    let change = change_of c.args.change.now in
    then_fault c.args.point.now (change (row_seen c.in-Some.row) ∷ []) (map change (rows_seen c.in-Some.rest)) (map change (rows_seen c.args.rows)) c.in-Err.fault (ap (map change) c.in-Some.ensures) c.in-Err.ensures

pub returns-in-Ok : goal.returns-in-Ok
returns-in-Ok t c =
    let change = change_of c.args.change.now in
    then_pushed c.args.point.now (change (row_seen c.in-Some.row) ∷ []) (map change (rows_seen c.in-Some.rest)) (map change (rows_seen c.args.rows)) _ _ _ c.push_lines.result (ap (map change) c.in-Some.ensures) c.in-Ok.ensures c.push_lines.ensures
