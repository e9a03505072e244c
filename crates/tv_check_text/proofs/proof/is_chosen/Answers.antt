use Rattle.std.proofs.Common.{subst}
use Rattle.tv_linear.specs.Known.{as_given}
use Rattle.tv_cases.specs.Systems.{cases_of}
use Rattle.tv_cert.specs.Obligations.{a_choice}
use Rattle.tv_cert.specs.OwesViews.{destination_owes}
use Rattle.tv_cert.specs.Pieces.{place_of}
use Rattle.tv_linear.specs.Views.{rows_seen}
use Rattle.tv_check_text.specs.Checking.{ChecksProof}
use Rattle.tv_check_text.proofs.ProofLemmas.{choice_checks}
use Rattle.tv_check_text.proofs.proof.is_chosen.Goals as goal

pub returns : goal.returns
returns c =
    let system = cases_of c.args.context.now.about.now in
    let p = c.args.piece.now in
    subst (λ (x : Type 0). x) (λ i. ChecksProof (a_choice system.variables system.cases (place_of p) c.args.stop (destination_owes system.variables p c.args.destination.now) (as_given (c.rows-rows.ensures i))) c.args.cursor.now c.is_met.new.cursor c.is_met.result)
    (choice_checks system p c.args.stop c.args.destination.now (as_given (rows_seen c.rows-rows.result)) c.args.cursor.now c.is_met.new.cursor c.is_met.result c.is_met.ensures)
