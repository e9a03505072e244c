use Rattle.std.proofs.Common.{sym, subst}
use Rattle.std.specs.Prelude.{MatchResult}
use Rattle.tv_cert.specs.AboutSystem.{about_of}
use Rattle.tv_cert.specs.NodeViews.{pieces_list}
use Rattle.tv_cert.proofs.NodeLemmas.{pieces_are}
use Rattle.tv_shape.specs.Fitting.{IsVerdictFault, VerdictFits, VerdictShallow}
use Rattle.tv_shape.specs.Stations.{stations, AreRight}
use Rattle.tv_shape.proofs.FitLemmas.{verdict_ends}
use Rattle.tv_shape.proofs.fitting.look_through.Goals as goal

pub returns-in-Ok : goal.returns-in-Ok
returns-in-Ok c =
    λ of f e s.
    let root = c.args.root.now in
    let verdict = c.args.verdict.now in
    let right = subst (λ (x : Type 0). x) (λ i. AreRight (sym e i) (stations 0 1 (s i) root)) c.in-Ok.ensures.0 in
    let ends = subst (λ system. MatchResult c.look_at_verdict.result (λ x. VerdictShallow verdict × VerdictFits (about_of system) (pieces_list root) verdict) (IsVerdictFault (about_of system) (pieces_list root) verdict)) (sym e) c.look_at_verdict.ensures in
    verdict_ends of f root (pieces_list root) verdict c.look_at_verdict.result right (pieces_are root) ends
