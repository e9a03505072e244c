use Rattle.std.proofs.Common.{◌↔◌, ◌≤◌, [], IsTrue, refl, sym, ap, subst}
use Rattle.tv_linear.specs.Depth.{splits}
use Rattle.tv_linear.specs.Known.{given}
use Rattle.tv_cases.specs.Systems.{cases_of}
use Rattle.tv_cert.specs.declared.node.Proof.TheVariants.{Covered}
use Rattle.tv_cert.specs.Obligations.{a_cover}
use Rattle.tv_cert.specs.Shapes.{ProofShape, owed_count}
use Rattle.tv_cert.specs.Targets.{owed_into, no_fall}
use Rattle.tv_shape.proofs.OfferedLemmas.{cover_owed}
use Rattle.tv_shape.proofs.verdicts.start_has_shape.Goals as goal

pub returns : goal.returns
returns c =
    let system = cases_of c.args.about.now in
    let owed = owed_into c.args.pieces.now system.start given no_fall in
    subst (λ tree. IsTrue c.cover_has_shape.result ↔ ProofShape (a_cover system.variables [] owed) (Covered tree)) c.tree.ensures.same
    (cover_owed c.cover_has_shape.result c.variables.result system.variables 0 [] owed _ c.tree.result.now c.variables.ensures.same refl
    (λ k j. ap (λ l. owed_count (owed_into c.args.pieces.now l given no_fall) k j) c.start.ensures.same)
    (subst (λ tree. splits tree ≤ 128) (sym c.tree.ensures.same) c.tree.ensures.shallow) c.cover_has_shape.ensures)
