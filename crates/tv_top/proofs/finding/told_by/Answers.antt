use Rattle.std.proofs.Common.{sym}
use Rattle.tv_program.specs.Programs.{system_of}
use Rattle.tv_cases.specs.Systems.{cases_of}
use Rattle.tv_top.specs.Views.{wanted_view}
use Rattle.tv_top.proofs.Found.{said_so}
use Rattle.tv_top.proofs.finding.told_by.Goals as goal

pub returns-in-Ok : goal.returns-in-Ok
returns-in-Ok c = λ f is.
    let search = c.args.search.now in
    let p = system_of search.program.now in
    let about = cases_of search.about.now in
    said_so (wanted_view search.task.now.wanted) p f about search.claim.now is c.args.certificate.now c.requires.settling (c.ensure_met.ensures f is) c.verdict.result.now c.in-Ok.text.items
    (sym c.verdict.ensures) c.in-Ok.ensures c.verdict_answer.result c.verdict_answer.ensures
