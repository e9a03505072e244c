use Rattle.std.proofs.Common.{◌≡◌, ◌<◌, ◌^◌, get_or, arith, rules, sym, subst}
use Rattle.tv_nested.proofs.SplitLemmas.{split_before}
use Rattle.tv_nested.proofs.splitting.split_at.Goals as goal

pub returns : goal.returns
returns c =
    let rows = c.args.rows.now in
    let place = c.args.place in
    let same = c.in_ok-copy_row.ensures.same in
    let is = subst (λ r. r ≡ get_or rows place r) (sym same) c.index-rows-place.is in
    let e = c.number_of.ensures in
    let slim : c.number_of.result < 2 ^ 32 = search rules in
    split_before rows place c.args.before c.args.fall.now c.in_ok-copy_row.field-0 c.in_ok-into.into c.args.rest c.in_ok-tree.tree c.narrow_rows.ensures c.requires.few (omega (arith, e, slim)) c.requires.place is c.in_ok-into.ensures c.requires.rest c.in_ok-tree.ensures
