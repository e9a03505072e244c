use Rattle.std.proofs.Common.{◌≡◌, ◌+◌, ◌++◌, ◌∷◌, [], ◌<◌, ◌^◌, length, sym, subst}
use Rattle.tv_cases.specs.LinearCases.{CaseSystem}
use Rattle.tv_cases.specs.Systems.{cases_of}
use Rattle.tv_cert.specs.declared.node.Node.{Node}
use Rattle.tv_cert.specs.declared.node.Verdict.{Verdict}
use Rattle.tv_cert.specs.AimViews.{aim_states}
use Rattle.tv_cert.specs.Claims.{shown}
use Rattle.tv_cert.specs.Nodes.{size, pieces_of, root_entry, node_entries, HasParts}
use Rattle.tv_cert.specs.AboutSystem.{about_of}
use Rattle.tv_cert.specs.Statements.{Statement}
use Rattle.tv_cert.specs.Obligations.{AllMet}
use Rattle.tv_sound.proofs.ClaimLemmas.{aim_is, owed, has_parts, has_room}
use Rattle.tv_sound.proofs.accepting.is_met.Goals as goal

-- the obligations are met of the root and the verdict that are said to be the same
met_for : (system : CaseSystem) (s : Statement) (r r' : Node) (v v' : Verdict) → r ≡ r' → v ≡ v' → AllMet (node_entries 0 system s r ++ root_entry (about_of system) (pieces_of r) v ∷ []) → AllMet (node_entries 0 system s r' ++ root_entry (about_of system) (pieces_of r') v' ∷ [])
met_for system s r r' v v' e f h = subst (λ (x : Type 0). x) (λ i. AllMet (node_entries 0 system s (e i) ++ root_entry (about_of system) (pieces_of (e i)) (f i) ∷ [])) h

pub check-requires-clause-parts : goal.check-requires-clause-parts
check-requires-clause-parts c =
    let system = cases_of c.args.about.now in
    let cert = c.args.certificate.now in
    let same = aim_is system _ c.args.claim.now _ cert.verdict _ c.aim.ensures c.requires.variables c.verdict-verdict.ensures in
    subst (HasParts (aim_states c.aim.result.now)) (sym c.root.ensures) (has_parts system (shown c.args.claim.now cert.verdict) cert (aim_states c.aim.result.now) same c.requires.fits)

pub check-requires-clause-room : goal.check-requires-clause-room
check-requires-clause-room c =
    let system = cases_of c.args.about.now in
    let cert = c.args.certificate.now in
    let same = aim_is system _ c.args.claim.now _ cert.verdict _ c.aim.ensures c.requires.variables c.verdict-verdict.ensures in
    subst (λ r. length (node_entries 0 system (aim_states c.aim.result.now) r) + 1 < 2 ^ 64) (sym c.root.ensures) (has_room system (shown c.args.claim.now cert.verdict) cert (aim_states c.aim.result.now) same c.requires.fits)

pub check-requires-clause-nodes : goal.check-requires-clause-nodes
check-requires-clause-nodes c = subst (λ r. size r < 2 ^ 32) (sym c.root.ensures) c.requires.fits.few_nodes

pub returns-in-Ok : goal.returns-in-Ok
returns-in-Ok c =
    let system = cases_of c.args.about.now in
    let cert = c.args.certificate.now in
    let s = aim_states c.aim.result.now in
    let same = aim_is system _ c.args.claim.now _ cert.verdict _ c.aim.ensures c.requires.variables c.verdict-verdict.ensures in
    subst AllMet (owed system (shown c.args.claim.now cert.verdict) cert s same c.requires.fits)
    (met_for system s c.root.result.now cert.root c.verdict-verdict.result.now cert.verdict c.root.ensures c.verdict-verdict.ensures c.in-Ok.ensures)
