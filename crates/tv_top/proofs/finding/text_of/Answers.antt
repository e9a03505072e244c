use Rattle.tv_cases.specs.Systems.{cases_of}
use Rattle.tv_cert.specs.Claims.{about_with, shown}
use Rattle.tv_top.proofs.finding.text_of.Goals as goal
use Rattle.tv_propose.proofs.TableLemmas.{if_ok}

pub returns-in-Certificate : goal.returns-in-Certificate
returns-in-Certificate c =
    let s = c.args.search.now in
    let about = cases_of s.about.now in
    let claim = s.claim.now in
    let written = c.args.certificate.now in
    let is = c.requires.settling.of in
    rw c.in-Certificate.is
    (if_ok _ _ c.write_certificate.result (λ text lines. record { lines = lines; is = is }) (c.write_certificate.ensures.again (about_with about) (shown claim written.verdict) is))
