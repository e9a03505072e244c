use Rattle.std.proofs.Common.{arith}
use Rattle.tv_cert_reader.specs.Parts.{AppendsRows}
use Rattle.tv_cert_reader.proofs.ReadingLemmas.{at_exit}
use Rattle.tv_cert_reader.proofs.PartLemmas.{rows_fail}
use Rattle.tv_cert_reader.proofs.AppendedLemmas.{appended_none, appended_next, appended_end}
use Rattle.tv_cert_reader.proofs.rows.append_rows.Goals as goal

pub rows-init : goal.rows-init
rows-init c = (appended_none c.args.kind c.args.width c.args.packed.now.items c.args.cursor.now, omega arith)

pub rows-preserved : goal.rows-preserved
rows-preserved c = (
  appended_next c.args.kind c.args.width c.args.packed.now.items c.rows.packed.items c.append_row.new.packed.items c.args.cursor.now c.rows.counter c.rows.cursor c.append_row.new.cursor c.rows.invariant.0 c.in_ok-append_row.ensures,
  omega arith,
)

pub returns-in_err-append_row : goal.returns-in_err-append_row
returns-in_err-append_row c =
    let so_far = c.rows.invariant.0 in
    at_exit (AppendsRows c.args.kind c.args.width c.args.count c.args.packed.now.items c.append_row.new.packed.items c.args.cursor.now c.append_row.new.cursor) c.from_residual.result c.in_err-append_row.field-0.0 c.from_residual.ensures.1
    (rows_fail c.args.kind c.args.width c.args.count c.rows.counter c.args.cursor.now c.rows.cursor so_far.0 c.in_err-append_row.field-0.0 so_far.1 c.rows-test.true c.in_err-append_row.ensures)

pub returns : goal.returns
returns c = appended_end c.args.kind c.args.width c.args.count c.rows.counter c.args.packed.now.items c.rows.packed.items c.args.cursor.now c.rows.cursor c.rows.invariant.0 (let e = c.rows.invariant.1 in let f = c.rows-test.false in omega (arith, e, f))
