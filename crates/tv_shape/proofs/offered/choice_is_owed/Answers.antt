use Rattle.std.proofs.Common.{◌↔◌, IsTrue, length, sym, ap, ◌∙◌, subst}
use Rattle.std.proofs.lemmas.List.{length-map}
use Rattle.tv_linear.specs.Known.{given, as_given}
use Rattle.tv_cases.specs.Systems.{cases_of}
use Rattle.tv_cert.specs.declared.node.Proof.TheVariants.{Chosen}
use Rattle.tv_cert.specs.OwesViews.{owed_by, destination_owes}
use Rattle.tv_cert.specs.Pieces.{rows_of, place_of}
use Rattle.tv_cert.specs.Shapes.{ProofShape}
use Rattle.tv_shape.proofs.OfferedLemmas.{choice_owed}
use Rattle.tv_shape.proofs.offered.choice_is_owed.Goals as goal

pub returns-in-Choice : goal.returns-in-Choice
returns-in-Choice c =
    let p = c.in-Choice.piece.now in
    subst (λ o. IsTrue c.choice_has_shape.result ↔ ProofShape (owed_by (cases_of c.args.about.now) o) (Chosen c.args.tree.now)) (sym c.in-Choice.is)
    (choice_owed c.choice_has_shape.result (cases_of c.args.about.now).variables (place_of p) c.len.result (cases_of c.args.about.now).cases (as_given (rows_of p)) c.in-Choice.stop (destination_owes (cases_of c.args.about.now).variables p c.in-Choice.destination) c.args.tree.now
    (c.len.ensures.counted ∙ ap length c.rows.ensures ∙ sym (length-map (rows_of p) given)) c.requires c.choice_has_shape.ensures)
