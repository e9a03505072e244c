use Rattle.std.proofs.Common.{Result, Ok, Err, refl}
use Rattle.std.specs.Prelude.{IfOk}
use Rattle.tv_program.specs.Programs.{system_of}
use Rattle.tv_cases.specs.Systems.{cases_of}
use Rattle.tv_check_text.specs.declared.text.Accepted.{Accepted}
use Rattle.tv_check_text.specs.declared.text.TextFailing.{TextFailing}
use Rattle.tv_check_text.specs.Texts.{IsAcceptedText}
use Rattle.tv_top.specs.Accepted.{IsAcceptedClaim}
use Rattle.tv_sound.proofs.ClaimLemmas.{settled, follows}
use Rattle.tv_top.proofs.accepting.check_claim_text.Goals as goal

each_ok : (P Q : Accepted → Type 0) (result : Result Accepted TextFailing) → IfOk result P → ((a : Accepted) → P a → Q a) → IfOk result Q
each_ok P Q (Ok a) h f = f a h
each_ok P Q (Err failing) h f = tt

pub returns-clause-accepted : goal.returns-clause-accepted
returns-clause-accepted c =
    let p = system_of c.args.program.now in
    let system = cases_of c.args.about.now in
    each_ok (IsAcceptedText system c.args.claim.now c.args.text.now) (IsAcceptedClaim p system c.args.claim.now c.args.text.now) c.check_text.result c.check_text.ensures.accepted
    (λ a h. record {
      accepted = h;
      settled = λ f is. settled p system c.requires.same_program c.requires.same_steps c.args.claim.now h.certificate h.is_text.is h.met f is;
      followed = follows p system c.requires.same_program c.requires.same_steps c.args.claim.now h.certificate h.is_text.is h.met h.certificate.verdict refl;
    })
