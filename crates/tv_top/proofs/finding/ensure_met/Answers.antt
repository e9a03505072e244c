use Rattle.tv_cases.specs.Systems.{cases_of}
use Rattle.tv_cert.specs.Claims.{about_with, shown}
use Rattle.tv_cert.specs.Nodes.{obligations}
use Rattle.tv_top.proofs.Found.{none_fails}
use Rattle.tv_top.proofs.finding.ensure_met.Goals as goal

pub unreachable-requires : goal.unreachable-requires
unreachable-requires c =
    let claim = c.args.search.now.claim.now in
    let made = c.args.certificate.now in
    let about = about_with (cases_of c.args.search.now.about.now) in
    none_fails (obligations about (shown claim made.verdict) made.root made.verdict) 0 c.in-Err.field-0 c.requires.settling.met c.in-Err.ensures.exact

pub returns : goal.returns
returns c = λ f is. record { settled = c.in-Ok.ensures.settled f is; followed = c.in-Ok.ensures.followed f is }
