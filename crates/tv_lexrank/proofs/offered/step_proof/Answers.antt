use Rattle.std.proofs.Common.{arith}
use Rattle.tv_cases.specs.Systems.{cases_of}
use Rattle.tv_lexrank.proofs.PartShown.{shown_at, as_many}
use Rattle.tv_lexrank.proofs.offered.step_proof.Goals as goal

pub bounds-shown-number : goal.bounds-shown-number
bounds-shown-number c =
    let r = c.args.ranking.now in
    let e = as_many r (cases_of r.about.now).cases c.args.shown.now c.requires.shown in
    let n = c.requires.number in
    omega (arith, e, n)

pub step_cover-requires-clause-shown : goal.step_cover-requires-clause-shown
step_cover-requires-clause-shown c = shown_at c.args.ranking.now c.args.shown.now c.args.number _ c.requires.shown c.requires.number c.index-shown-number.is
