use Rattle.std.proofs.Common.{arith}
use Rattle.tv_cert_reader.specs.Parts.{ReadsLists}
use Rattle.tv_cert_reader.proofs.ReadingLemmas.{at_exit}
use Rattle.tv_cert_reader.proofs.PartLemmas.{lists_fail, lists_end}
use Rattle.tv_cert_reader.proofs.rows.lists.Goals as goal

pub returns-in_err-list : goal.returns-in_err-list
returns-in_err-list c =
    at_exit (ReadsLists c.args.wide c.args.count c.args.cursor.now c.numbers.new.cursor) c.from_residual-in_err-list.result c.in_err-list.field-0.0 c.from_residual-in_err-list.ensures.1
    (lists_fail c.args.wide c.args.count c.lists.counter c.args.cursor.now c.lists.cursor c.lists.lists.items c.in_err-list.field-0.0 c.lists.invariant.0 c.lists-test.true c.in_err-list.ensures)

pub returns : goal.returns
returns c = lists_end c.args.wide c.args.count c.lists.counter c.args.cursor.now c.lists.cursor c.lists.lists.items c.lists.invariant.0 (let e = c.lists.invariant.1 in let f = c.lists-test.false in omega (arith, e, f))
