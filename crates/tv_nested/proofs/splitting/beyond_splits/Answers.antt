use Rattle.std.proofs.Common.{◌<◌, ◌^◌, arith, rules}
use Rattle.tv_nested.proofs.SplitLemmas.{beyond_all}
use Rattle.tv_nested.proofs.splitting.beyond_splits.Goals as goal

pub returns : goal.returns
returns c =
    let rows = c.args.rows.now in
    let e = c.number_of.ensures in
    let slim : c.number_of.result < 2 ^ 32 = search rules in
    let tree = c.in_ok-tree.tree in
    beyond_all rows c.args.before c.args.fall.now tree c.narrow_rows.ensures c.requires.few (omega (arith, e, slim)) c.in_ok-tree.ensures
