use Rattle.std.proofs.Common.{◌+◌, length, arith, ap}
use Rattle.tv_simplex.proofs.ScaleLemmas.{scaled_up}
use Rattle.tv_farkas.proofs.SystemLemmas.{length-numbers}
use Rattle.tv_farkas.proofs.refutation.numbers_of.Goals as goal

pub push_column-requires : goal.push_column-requires
push_column-requires c =
    let e = ap length c.columns.invariant in
    let n = length-numbers c.columns.column c.args.rows.now in
    let l = scaled_up (c.columns.column + 1) (c.args.columns + 1) (length c.args.rows.now) (omega arith) in
    omega (arith, e, n, l)
