use Rattle.std.proofs.Common.{◌≡◌, ◌+◌, ◌++◌, length, refl, sym, ap, ◌∙◌, arith, length-append}
use Rattle.std.proofs.lemmas.List.{length-map}
use Rattle.tv_linear.specs.Known.{as_given, given}
use Rattle.tv_cases.specs.Views.{case_view}
use Rattle.tv_cert.specs.Pieces.{rows_of}
use Rattle.tv_cert.specs.declared.node.Proof.TheVariants.{Covered}
use Rattle.tv_finitely.specs.Splits.{split_of}
use Rattle.tv_finitely.proofs.CaseLemmas.{cover_shaped}
use Rattle.tv_finitely.proofs.shape.proof_has_shape.Goals as goal

pub returns-in-Covered : goal.returns-in-Covered
returns-in-Covered c =
    let taken = case_view c.case-case.result.now in
    let p = rows_of c.args.piece.now in
    let wide = c.variables-columns.ensures.same ∙ ap (λ x. x.variables) c.cases.ensures.same in
    let a = c.len-known.ensures.counted ∙ ap length c.rows.ensures in
    let b = c.len.ensures ∙ c.case-case.result.now.guards.rows.ok.0 in
    let many : c.len-known.result + c.len.result ≡ length (as_given p ++ as_given taken.guards) = omega (arith, a, b, length-map p given, length-map taken.guards given, length-append (as_given p) (as_given taken.guards)) in
    cover_shaped (split_of c.args.about.now) c.args.pieces.now c.args.piece.now c.args.number c.cover_has_shape.result c.variables-columns.result taken c.tree.result.now c.args.proof.now c.entrance_over-entrance.result wide c.case-case.ensures.is
    (c.in-Covered.is ∙ ap Covered (sym c.tree.ensures.same)) c.entrance_over-entrance.ensures _ _ many refl (rw c.tree.ensures.same c.tree.ensures.shallow) c.cover_has_shape.ensures
