use Rattle.std.proofs.Common.{length, length-append, length-take-le, map, take, arith, ap}
use Rattle.std.proofs.lemmas.List.{length-map}
use Rattle.tv_linear.specs.Linear.{entry}
use Rattle.tv_farkas.proofs.refutation.push_column.Goals as goal

pub push-requires : goal.push-requires
push-requires c =
    let done = take c.rows.row-index c.args.rows.now in
    let row = map (λ r. entry r c.args.column) done in
    let e = ap length c.rows.invariant in
    let a = length-append c.args.numbers.now row in
    let m = length-map done (λ r. entry r c.args.column) in
    let t = length-take-le c.rows.row-index c.args.rows.now (omega arith) in
    omega (arith, e, a, m, t)
