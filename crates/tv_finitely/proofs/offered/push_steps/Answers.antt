use Rattle.std.proofs.Common.{◌≡◌, length, arith}
use Rattle.tv_finitely.specs.Ranked.{system_of}
use Rattle.tv_finitely.proofs.StepCovers.{steps_more, all_steps}
use Rattle.tv_finitely.proofs.offered.push_steps.Goals as goal

pub cases-preserved : goal.cases-preserved
cases-preserved c =
    let t = c.cases-test.true in
    let n = c.count-count.ensures in
    steps_more c.args.ranking.now c.args.location c.cases.number _ _ _ (omega (arith, t, n)) c.cases.invariant c.in-Ok.ensures.shown

pub returns-clause-shown : goal.returns-clause-shown
returns-clause-shown c =
    let f = c.cases-test.false in
    let n = c.count-count.ensures in
    let e = c.cases.auto.number-end in
    let all : c.cases.number ≡ length (system_of c.args.ranking.now).cases = omega (arith, f, n, e) in
    all_steps c.args.ranking.now c.args.location c.cases.number _ _ all c.cases.invariant
