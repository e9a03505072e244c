use Rattle.std.proofs.Common.{arith}
use Rattle.tv_finitely.specs.Obligations.{case_owes}
use Rattle.tv_finitely.specs.Splits.{split_of, marked_cases}
use Rattle.tv_finitely.specs.Walks.{marked_at}
use Rattle.tv_finitely.proofs.MarkLemmas.{length_marked, marked_got}
use Rattle.tv_finitely.proofs.Walking.{settled_next, settled_fails, settled_all}
use Rattle.tv_finitely.proofs.checking.settle_piece.Goals as goal

pub returns-in-Err : goal.returns-in-Err
returns-in-Err c =
    let s = split_of c.args.about.now in
    let t = c.cases-test.true in
    let n = c.count-count.ensures in
    settled_fails (case_owes s.system c.args.pieces.now c.args.piece.now) (marked_cases s) c.args.proofs.now c.args.met c.cases.number c.cases.next c.cases.invariant (marked_at s c.cases.number) (marked_got s.system.cases s.enters c.cases.number (omega (arith, t, n))) c.in-Err.failing c.in-Err.ensures

pub cases-preserved : goal.cases-preserved
cases-preserved c =
    let s = split_of c.args.about.now in
    let t = c.cases-test.true in
    let n = c.count-count.ensures in
    settled_next (case_owes s.system c.args.pieces.now c.args.piece.now) (marked_cases s) c.args.proofs.now c.args.met c.cases.number c.cases.next c.cases.invariant (marked_at s c.cases.number) (marked_got s.system.cases s.enters c.cases.number (omega (arith, t, n))) c.in-Ok.after c.in-Ok.ensures.0 c.in-Ok.ensures.1 c.in-Ok.ensures.2

pub returns : goal.returns
returns c =
    let s = split_of c.args.about.now in
    let f = c.cases-test.false in
    let n = c.count-count.ensures in
    let m = length_marked s.system.cases s.enters in
    settled_all (case_owes s.system c.args.pieces.now c.args.piece.now) (marked_cases s) c.args.proofs.now c.args.met c.cases.number c.cases.next (omega (arith, f, n, m)) c.cases.invariant
