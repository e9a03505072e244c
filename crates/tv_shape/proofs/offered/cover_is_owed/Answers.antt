use Rattle.std.proofs.Common.{◌≡◌, ◌↔◌, ◌+◌, ◌++◌, length, IsTrue, refl, sym, ap, ◌∙◌, subst, arith, length-append}
use Rattle.std.proofs.lemmas.List.{length-map}
use Rattle.tv_linear.specs.Known.{given, as_given}
use Rattle.tv_cases.specs.Systems.{cases_of}
use Rattle.tv_cases.specs.Views.{case_view}
use Rattle.tv_cert.specs.declared.node.Proof.TheVariants.{Covered}
use Rattle.tv_cert.specs.declared.owes.Owes.TheVariants as owes
use Rattle.tv_cert.specs.Obligations.{case_change}
use Rattle.tv_cert.specs.OwesViews.{owed_by}
use Rattle.tv_cert.specs.Pieces.{rows_of}
use Rattle.tv_cert.specs.Shapes.{ProofShape}
use Rattle.tv_cert.specs.TargetViews.{owed_at}
use Rattle.tv_cert.proofs.TargetLemmas.{counts_as}
use Rattle.tv_shape.proofs.OfferedLemmas.{cover_owed}
use Rattle.tv_shape.proofs.offered.cover_is_owed.Goals as goal

pub returns-in-None : goal.returns-in-None
returns-in-None c =
    let p = c.in-Cover.piece.now in
    let ts = c.in-Cover.targets in
    let owed = owed_at given ts in
    subst (λ o. IsTrue c.cover_has_shape.result ↔ ProofShape (owed_by (cases_of c.args.about.now) o) (Covered c.args.tree.now)) (sym c.in-Cover.is)
    (subst (λ k. IsTrue c.cover_has_shape.result ↔ ProofShape (owed_by (cases_of c.args.about.now) (owes.Cover c.in-Cover.piece k ts)) (Covered c.args.tree.now)) (sym c.in-None.is)
    (cover_owed c.cover_has_shape.result c.variables-columns.result _ c.len-known.result (as_given (rows_of p)) owed _ c.args.tree.now c.variables-columns.ensures.same
    (c.len-known.ensures.counted ∙ ap length c.rows.ensures ∙ sym (length-map (rows_of p) given)) (counts_as given ts owed refl) c.requires c.cover_has_shape.ensures))

pub returns-in-Some : goal.returns-in-Some
returns-in-Some c =
    let p = c.in-Cover.piece.now in
    let ts = c.in-Cover.targets in
    let k = c.in-Some.case.now in
    let change = case_change (cases_of c.args.about.now).variables (case_view k) in
    let owed = owed_at change ts in
    let a = c.len-known.ensures.counted ∙ ap length c.rows.ensures in
    let b = c.len.ensures ∙ k.guards.rows.ok.0 in
    let many : c.len-known.result + c.len.result ≡ length (as_given (rows_of p) ++ as_given k.guards.rows.items) = omega (arith, a, b, length-map (rows_of p) given, length-map k.guards.rows.items given, length-append (as_given (rows_of p)) (as_given k.guards.rows.items)) in
    subst (λ o. IsTrue c.cover_has_shape-in-Some.result ↔ ProofShape (owed_by (cases_of c.args.about.now) o) (Covered c.args.tree.now)) (sym c.in-Cover.is)
    (subst (λ k. IsTrue c.cover_has_shape-in-Some.result ↔ ProofShape (owed_by (cases_of c.args.about.now) (owes.Cover c.in-Cover.piece k ts)) (Covered c.args.tree.now)) (sym c.in-Some.is)
    (cover_owed c.cover_has_shape-in-Some.result (c.variables-columns.result + k.draws) _ _ (as_given (rows_of p) ++ as_given k.guards.rows.items) owed _ c.args.tree.now (ap (λ n. n + k.draws) c.variables-columns.ensures.same)
    many (counts_as change ts owed refl) c.requires c.cover_has_shape-in-Some.ensures))
