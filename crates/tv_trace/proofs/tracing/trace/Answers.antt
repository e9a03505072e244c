use Rattle.std.proofs.Common.{◌∙◌, ap, sym}
use Rattle.tv_program.specs.Programs.{system_of}
use Rattle.tv_cases.specs.Systems.{cases_of}
use Rattle.tv_cert.specs.declared.node.Node.{out-Node}
use Rattle.tv_cert.specs.NodeViews.{pieces_list}
use Rattle.tv_trace.proofs.TraceLemmas.{root_offers, follows_at, traced, is_run}
use Rattle.tv_trace.proofs.tracing.trace.Goals as goal

pub from_start-requires-clause-followed : goal.from_start-requires-clause-followed
from_start-requires-clause-followed c =
    let program = c.args.program.now in
    let cert = c.args.certificate.now in
    let same = root_offers cert.root c.list.result.now c.deref.result.now (c.list.ensures ∙ ap pieces_list c.root-root.ensures) (c.deref.ensures.value ∙ ap (λ root. (out-Node root).proofs.items) c.root-root.ensures) in
    follows_at (system_of program) (cases_of c.args.about.now) program.within_limits c.requires.same_program c.requires.cases c.args.claim.now cert c.requires.settles c.requires.ends
    c.in-Disproved.piece c.in-Disproved.values (sym c.verdict.ensures ∙ c.in-Disproved.is) c.list.result.now c.deref.result.now c.deref-in-Disproved.result.now same c.deref-in-Disproved.ensures.value

pub returns-clause-traced : goal.returns-clause-traced
returns-clause-traced c =
    let program = c.args.program.now in
    let cert = c.args.certificate.now in
    let same = root_offers cert.root c.list.result.now c.deref.result.now (c.list.ensures ∙ ap pieces_list c.root-root.ensures) (c.deref.ensures.value ∙ ap (λ root. (out-Node root).proofs.items) c.root-root.ensures) in
    traced (system_of program) (cases_of c.args.about.now) program.within_limits c.requires.same_program c.requires.cases c.args.claim.now cert c.requires.settles c.requires.ends
    c.in-Disproved.piece c.in-Disproved.values (sym c.verdict.ensures ∙ c.in-Disproved.is) c.list.result.now c.deref.result.now c.deref-in-Disproved.result.now same c.deref-in-Disproved.ensures.value
    c.args.count c.from_start.result c.from_start.ensures

pub returns-clause-run : goal.returns-clause-run
returns-clause-run c =
    let program = c.args.program.now in
    let cert = c.args.certificate.now in
    let same = root_offers cert.root c.list.result.now c.deref.result.now (c.list.ensures ∙ ap pieces_list c.root-root.ensures) (c.deref.ensures.value ∙ ap (λ root. (out-Node root).proofs.items) c.root-root.ensures) in
    is_run (system_of program) (cases_of c.args.about.now) program.within_limits c.requires.same_program c.requires.cases c.args.claim.now cert c.requires.settles c.requires.ends
    c.in-Disproved.piece c.in-Disproved.values (sym c.verdict.ensures ∙ c.in-Disproved.is) c.list.result.now c.deref.result.now c.deref-in-Disproved.result.now same c.deref-in-Disproved.ensures.value
    c.args.count c.from_start.result c.from_start.ensures
