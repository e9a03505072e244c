use Rattle.tv_cases.specs.Systems.{cases_of}
use Rattle.tv_cert.specs.declared.node.Verdict.TheVariants.{Disproved}
use Rattle.tv_cert.specs.AimViews.{aim_states}
use Rattle.tv_cert.specs.Nodes.{pieces_of, root_entry, node_entries}
use Rattle.tv_cert.specs.AboutSystem.{about_of}
use Rattle.tv_cert.proofs.FailingLemmas.{failing_left}
use Rattle.tv_check.proofs.SettlingLemmas.{last_settled}
use Rattle.tv_check.proofs.checking.check_disproved.Goals as goal

pub returns-in-Err : goal.returns-in-Err
returns-in-Err c = failing_left (node_entries 0 (cases_of c.args.about.now) (aim_states c.args.aim.now) c.args.root.now) _ 0 _ c.in-Err.ensures

pub returns-in-Ok : goal.returns-in-Ok
returns-in-Ok c =
    let system = cases_of c.args.about.now in
    last_settled (node_entries 0 system (aim_states c.args.aim.now) c.args.root.now) (root_entry (about_of system) (pieces_of c.args.root.now) (Disproved c.args.piece c.args.values.now)) c.in-Ok.seen c.check_values.result c.in-Ok.ensures.0 c.in-Ok.ensures.1 c.check_values.ensures
