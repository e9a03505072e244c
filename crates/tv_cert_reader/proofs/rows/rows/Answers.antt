use Rattle.std.proofs.Common.{arith}
use Rattle.tv_cert_reader.specs.Parts.{ReadsRows}
use Rattle.tv_cert_reader.proofs.ReadingLemmas.{at_exit}
use Rattle.tv_cert_reader.proofs.PartLemmas.{rows_fail, rows_end}
use Rattle.tv_cert_reader.proofs.rows.rows.Goals as goal

pub returns-in_err-row : goal.returns-in_err-row
returns-in_err-row c =
    at_exit (ReadsRows c.args.kind c.args.width c.args.count c.args.cursor.now c.row.new.cursor) c.from_residual-in_err-row.result c.in_err-row.field-0.0 c.from_residual-in_err-row.ensures.1
    (rows_fail c.args.kind c.args.width c.args.count c.rows.counter c.args.cursor.now c.rows.cursor c.rows.rows.items c.in_err-row.field-0.0 c.rows.invariant.0 c.rows-test.true c.in_err-row.ensures)

pub returns : goal.returns
returns c = rows_end c.args.kind c.args.width c.args.count c.rows.counter c.args.cursor.now c.rows.cursor c.rows.rows.items c.rows.invariant.0 (let e = c.rows.invariant.1 in let f = c.rows-test.false in omega (arith, e, f))
