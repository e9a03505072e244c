use Rattle.std.proofs.Common.{arith, subst, ◌∷◌, []}
use Rattle.tv_choice.specs.Looking.{IsAnyExcluded}
use Rattle.tv_choice.proofs.LookLemmas.{entered_next, entered_all}
use Rattle.tv_choice.proofs.looking.any_excluded.Goals as goal

pub owed-preserved : goal.owed-preserved
owed-preserved c =
    let n = c.args.question.now.columns in
    entered_next n c.args.place.now.rows.now c.args.owed.now c.owed.number c.index-owed-number.result c.owed-test.true c.index-owed-number.is (subst (IsAnyExcluded n c.args.place.now.rows.now (c.index-owed-number.result ∷ [])) c.in-Ok-false.field-0-test c.in-Ok-false.ensures.excluded) c.owed.invariant

pub returns-clause-excluded : goal.returns-clause-excluded
returns-clause-excluded c = entered_all c.args.question.now.columns c.args.place.now.rows.now c.args.owed.now c.owed.number (let t = c.owed-test.false in omega (arith, t)) c.owed.invariant
