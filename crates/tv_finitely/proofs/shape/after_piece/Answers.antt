use Rattle.std.proofs.Common.{arith}
use Rattle.tv_finitely.specs.Obligations.{case_owes}
use Rattle.tv_finitely.specs.Splits.{split_of, marked_cases}
use Rattle.tv_finitely.specs.Walks.{marked_at}
use Rattle.tv_finitely.proofs.MarkLemmas.{length_marked, marked_got}
use Rattle.tv_finitely.proofs.Walking.{shaped_next, shaped_fails, shaped_all}
use Rattle.tv_finitely.proofs.shape.after_piece.Goals as goal

pub returns-in-None : goal.returns-in-None
returns-in-None c =
    let s = split_of c.args.about.now in
    let t = c.cases-test.true in
    let n = c.count-count.ensures in
    shaped_fails (case_owes s.system c.args.pieces.now c.args.piece.now) (marked_cases s) c.args.proofs.now c.args.from c.cases.number c.cases.next c.cases.invariant (marked_at s c.cases.number) (marked_got s.system.cases s.enters c.cases.number (omega (arith, t, n))) c.in-None.ensures

pub cases-preserved : goal.cases-preserved
cases-preserved c =
    let s = split_of c.args.about.now in
    let t = c.cases-test.true in
    let n = c.count-count.ensures in
    shaped_next (case_owes s.system c.args.pieces.now c.args.piece.now) (marked_cases s) c.args.proofs.now c.args.from c.cases.number c.cases.next c.cases.invariant (marked_at s c.cases.number) (marked_got s.system.cases s.enters c.cases.number (omega (arith, t, n))) c.in-Some.after c.in-Some.ensures

pub returns : goal.returns
returns c =
    let s = split_of c.args.about.now in
    let f = c.cases-test.false in
    let n = c.count-count.ensures in
    let m = length_marked s.system.cases s.enters in
    shaped_all (case_owes s.system c.args.pieces.now c.args.piece.now) (marked_cases s) c.args.proofs.now c.args.from c.cases.number c.cases.next (omega (arith, f, n, m)) c.cases.invariant
