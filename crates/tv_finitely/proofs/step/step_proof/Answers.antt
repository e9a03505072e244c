use Rattle.std.proofs.Common.{sym, subst}
use Rattle.tv_cert.specs.declared.node.Proof.TheVariants.{Covered}
use Rattle.tv_finitely.specs.Ranked.{IsStepProof}
use Rattle.tv_finitely.proofs.StepCovers.{step_proved}
use Rattle.tv_finitely.proofs.step.step_proof.Goals as goal

pub returns-clause-shows : goal.returns-clause-shows
returns-clause-shows c =
    let r = c.args.ranking.now in
    let k = c.args.number in
    subst (λ t. IsStepProof r k (Covered t)) (sym c.in-Some.ensures.1) (step_proved r k c.requires.number c.in-Ok.tree c.in-Ok.ensures.shows)
