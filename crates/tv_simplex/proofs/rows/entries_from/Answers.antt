use Rattle.std.proofs.Common.{◌≡◌, ◌+◌, ◌-◌, ◌/◌, ◌<◌, length, arith, ap}
use Rattle.tv_simplex.proofs.RowLemmas.{below_found, from_found, left_found}
use Rattle.tv_simplex.proofs.rows.entries_from.Goals as goal

pub halves-preserved-then-row-middle : goal.halves-preserved-then-row-middle
halves-preserved-then-row-middle c =
    let middle = c.halves.first + (c.halves.end - c.halves.first) / 2 in
    let l : middle < length c.args.row.now = omega arith in (
      omega arith,
      omega arith,
      λ width h. (below_found width c.args.column middle c.args.row.now c.index-row-middle.result h l c.index-row-middle.is (let g = ap (λ z. z.column) c.index-row-middle.is in let k = c.if-row-middle.true in omega (arith, g, k)), (c.halves.invariant.2 width h).1),
    )

pub halves-preserved : goal.halves-preserved
halves-preserved c =
    let middle = c.halves.first + (c.halves.end - c.halves.first) / 2 in
    let l : middle < length c.args.row.now = omega arith in (
      omega arith,
      omega arith,
      λ width h. ((c.halves.invariant.2 width h).0, from_found 0 width c.args.column middle c.args.row.now c.index-row-middle.result h l c.index-row-middle.is (let g = ap (λ z. z.column) c.index-row-middle.is in let k = c.if-row-middle.false in omega (arith, g, k))),
    )

pub returns : goal.returns
returns c = λ width h.
    let e : c.halves.first ≡ c.halves.end = omega arith in
    let s = c.halves.invariant.2 width h in
    left_found c.args.column width c.halves.first c.halves.end c.args.row.now e s.0 s.1
