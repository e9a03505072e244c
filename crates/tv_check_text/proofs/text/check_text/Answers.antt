use Rattle.std.proofs.Common.{length, refl, sym, ap, ◌∙◌, subst, arith}
use Rattle.tv_cases.specs.Systems.{cases_of}
use Rattle.tv_cert_reader.proofs.ReadLemmas.{lines_few, refused}
use Rattle.tv_check_text.specs.Verdicts.{is_proved, values_in}
use Rattle.tv_check_text.specs.Texts.{IsUnaccepted}
use Rattle.tv_check_text.proofs.TextLemmas.{fails_first, is_accepted, unaccepted}
use Rattle.tv_check_text.proofs.text.check_text.Goals as goal

pub invariant_of-cursor : goal.invariant_of-cursor
invariant_of-cursor c = record {
  room = (let f = lines_few c.args.text.now in let e = ap length c.new.ensures in let r = c.requires.bounded in omega (arith, f, e, r));
}

pub returns-in-Err-clause-refused : goal.returns-in-Err-clause-refused
returns-in-Err-clause-refused c =
    let system = cases_of c.args.about.now in
    let claim = c.args.claim.now in
    let a = c.args.about.now.are_cases.starts in
    subst (IsUnaccepted system claim c.args.text.now) (sym c.failing_of.ensures) (unaccepted system claim c.args.text.now c.in-Err.failure
    (refused system (omega (arith, a)) claim c.requires.variables c.args.text.now c.in-Err.failure
    (record { lines = c.new.result; taken = 0; room = (let f = lines_few c.args.text.now in let e = ap length c.new.ensures in let r = c.requires.bounded in omega (arith, f, e, r)) }) c.new.ensures refl c.in-Err.ensures))

pub returns-in-Some-clause-refused : goal.returns-in-Some-clause-refused
returns-in-Some-clause-refused c =
    let h = c.in-Ok.ensures in
    fails_first (cases_of c.args.about.now) c.args.claim.now c.requires.variables c.args.text.now c.args.alloc (is_proved c.in-Ok.values) (values_in c.in-Ok.values) h.0 c.check_whole.new.walk.taker h.2 (sym c.new.ensures ∙ h.1) c.in-Some.failing c.in-Some.is

pub returns-clause-accepted : goal.returns-clause-accepted
returns-clause-accepted c =
    let h = c.in-Ok.ensures in
    let a = c.accepted_with.ensures in
    is_accepted (cases_of c.args.about.now) c.args.claim.now c.requires.variables c.args.text.now c.args.alloc (is_proved c.in-Ok.values) (values_in c.in-Ok.values) h.0 c.check_whole.new.walk.taker h.2 (sym c.new.ensures ∙ h.1) c.in-None.is c.accepted_with.result a.proved a.at_values a.counted
