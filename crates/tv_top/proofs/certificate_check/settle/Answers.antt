use Rattle.std.proofs.Common.{subst, sym, refl}
use Rattle.tv_program.specs.Programs.{system_of}
use Rattle.tv_cases.specs.Systems.{cases_of}
use Rattle.tv_top.specs.CertificateChecks.{Offered, AnswersCheck, Says}
use Rattle.tv_top.proofs.Settling.{no_certificate, said_is_so}
use Rattle.tv_top.proofs.certificate_check.settle.Goals as goal

pub returns-in-Ok : goal.returns-in-Ok
returns-in-Ok c = λ f is.
    let p = system_of c.args.program.now in
    let system = cases_of c.args.about.now in
    let h = c.in-Ok.ensures.accepted in
    let a = h.accepted in
    let offer : Offered f system c.args.text.now =
    record { claim = c.args.claim.now; is_claim = is; certificate = a.certificate; is_certificate = a.is_text } in
    said_is_so p f system c.args.text.now (record { offer = offer; met = a.met }) a.certificate.verdict refl (h.settled f is)
    (h.followed f is)
    c.accepted_answer.result (subst (λ (x : Type 0). x) (λ i. Says p (a.proved i) (a.at_values i) c.accepted_answer.result) c.accepted_answer.ensures)

pub returns-in-Err : goal.returns-in-Err
returns-in-Err c = λ f is.
    subst (λ answer. AnswersCheck (system_of c.args.program.now) f (cases_of c.args.about.now) c.args.text.now answer) (sym c.without_certificate.ensures)
    (no_certificate (system_of c.args.program.now) f (cases_of c.args.about.now) c.args.text.now c.args.claim.now is c.in-Err.failing c.in-Err.ensures.refused)
