use Rattle.std.proofs.Common.{sym, ap, ◌∙◌}
use Rattle.tv_cert.specs.declared.node.Proof.TheVariants.{Covered}
use Rattle.tv_cases.specs.Views.{case_view}
use Rattle.tv_finitely.specs.Splits.{split_of}
use Rattle.tv_finitely.proofs.CaseLemmas.{cover_met}
use Rattle.tv_finitely.proofs.checking.step_is_met.Goals as goal

pub returns-in-Covered : goal.returns-in-Covered
returns-in-Covered c =
    let s = split_of c.args.about.now in
    let wide = c.variables.ensures.same ∙ ap (λ x. x.variables) c.cases.ensures.same in
    cover_met s c.args.pieces.now c.args.piece.now c.args.number c.step_is_covered.result c.variables.result (case_view c.case-case.result.now) c.tree.result.now c.args.proof.now c.entrance_over-entrance.result wide c.case-case.ensures.is
    (c.in-Covered.is ∙ ap Covered (sym c.tree.ensures.same)) c.entrance_over-entrance.ensures c.step_is_covered.ensures
