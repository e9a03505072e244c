use Rattle.std.proofs.Common.{◌≡◌, ◌+◌, ◌++◌, ◌∷◌, [], ◌<◌, ◌^◌, Result, length, refl, sym, subst}
use Rattle.tv_program.specs.Programs.{system_of}
use Rattle.tv_cases.specs.LinearCases.{CaseSystem}
use Rattle.tv_cases.specs.Systems.{cases_of}
use Rattle.tv_cert.specs.declared.node.Node.{Node}
use Rattle.tv_cert.specs.declared.node.Verdict.{Verdict}
use Rattle.tv_cert.specs.AimViews.{aim_states}
use Rattle.tv_cert.specs.Claims.{shown}
use Rattle.tv_cert.specs.Nodes.{size, pieces_of, root_entry, node_entries, HasParts}
use Rattle.tv_cert.specs.AboutSystem.{about_of}
use Rattle.tv_cert.specs.Statements.{Statement}
use Rattle.tv_cert.specs.declared.failing.Failing.{Failing}
use Rattle.tv_cert.specs.FirstFailing.{Checks}
use Rattle.tv_sound.proofs.ClaimLemmas.{aim_is, owed, has_parts, has_room, settled, follows, on_ok}
use Rattle.tv_sound.proofs.claims.check_claim.Goals as goal

checked : (system : CaseSystem) (s : Statement) (r r' : Node) (v v' : Verdict) (result : Result (Unit {0}) Failing) → r ≡ r' → v ≡ v' → Checks (node_entries 0 system s r ++ root_entry (about_of system) (pieces_of r) v ∷ []) result → Checks (node_entries 0 system s r' ++ root_entry (about_of system) (pieces_of r') v' ∷ []) result
checked system s r r' v v' result e f h = subst (λ (x : Type 0). x) (λ i. Checks (node_entries 0 system s (e i) ++ root_entry (about_of system) (pieces_of (e i)) (f i) ∷ []) result) h

pub check-requires-clause-parts : goal.check-requires-clause-parts
check-requires-clause-parts c =
    let system = cases_of c.args.about.now in
    let cert = c.args.certificate.now in
    let same = aim_is system _ c.args.claim.now _ cert.verdict _ c.aim.ensures c.requires.variables c.verdict-verdict.ensures in
    subst (HasParts (aim_states c.aim.result.now)) (sym c.root.ensures) (has_parts system (shown c.args.claim.now cert.verdict) cert (aim_states c.aim.result.now) same c.requires.fits)

pub check-requires-clause-room : goal.check-requires-clause-room
check-requires-clause-room c =
    let system = cases_of c.args.about.now in
    let cert = c.args.certificate.now in
    let same = aim_is system _ c.args.claim.now _ cert.verdict _ c.aim.ensures c.requires.variables c.verdict-verdict.ensures in
    subst (λ r. length (node_entries 0 system (aim_states c.aim.result.now) r) + 1 < 2 ^ 64) (sym c.root.ensures) (has_room system (shown c.args.claim.now cert.verdict) cert (aim_states c.aim.result.now) same c.requires.fits)

pub check-requires-clause-nodes : goal.check-requires-clause-nodes
check-requires-clause-nodes c = subst (λ r. size r < 2 ^ 32) (sym c.root.ensures) c.requires.fits.few_nodes

pub returns-clause-exact : goal.returns-clause-exact
returns-clause-exact c =
    let system = cases_of c.args.about.now in
    let cert = c.args.certificate.now in
    let s = aim_states c.aim.result.now in
    let same = aim_is system _ c.args.claim.now _ cert.verdict _ c.aim.ensures c.requires.variables c.verdict-verdict.ensures in
    subst (λ es. Checks es c.check.result) (owed system (shown c.args.claim.now cert.verdict) cert s same c.requires.fits)
    (checked system s c.root.result.now cert.root c.verdict-verdict.result.now cert.verdict c.check.result c.root.ensures c.verdict-verdict.ensures c.check.ensures)

pub returns-clause-settled : goal.returns-clause-settled
returns-clause-settled c f h =
    on_ok _ _ _ c.check.result (returns-clause-exact c)
    (λ met. settled (system_of c.args.program.now) (cases_of c.args.about.now) c.requires.same_program c.requires.same_steps c.args.claim.now c.args.certificate.now c.requires.fits met f h)

pub returns-clause-followed : goal.returns-clause-followed
returns-clause-followed c f h n =
    on_ok _ _ _ c.check.result (returns-clause-exact c)
    (λ met. follows (system_of c.args.program.now) (cases_of c.args.about.now) c.requires.same_program c.requires.same_steps c.args.claim.now c.args.certificate.now c.requires.fits met c.args.certificate.now.verdict refl f h n)
