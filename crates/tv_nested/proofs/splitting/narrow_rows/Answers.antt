use Rattle.std.proofs.Common.{All, take, sym, subst, rules, ◌<◌, length}
use Rattle.std.proofs.lemmas.List.Elements.{All-push}
use Rattle.tv_linear.specs.Linear.{IsNarrow}
use Rattle.tv_linear.proofs.ListLaws.{take_next, take_past}
use Rattle.tv_nested.proofs.splitting.narrow_rows.Goals as goal

pub rows-preserved : goal.rows-preserved
rows-preserved c =
    let rows = c.args.rows.now in
    let i = c.rows.row-index in
    let r = c.row-item.result in
    let inside : i < length rows = search rules in
    subst (All IsNarrow) (sym (take_next rows i r inside c.row-item.is)) (All-push IsNarrow (take i rows) r c.rows.invariant c.columns.ensures.narrow)

pub returns : goal.returns
returns c =
    let t = c.rows-test.false in
    subst (All IsNarrow) (take_past c.args.rows.now c.rows.row-index (search rules)) c.rows.invariant
