use Rattle.std.proofs.Common.{◌↔◌, IsTrue, subst}
use Rattle.tv_linear.specs.Known.{as_given}
use Rattle.tv_cases.specs.Systems.{cases_of}
use Rattle.tv_cert.specs.Pieces.{place_of}
use Rattle.tv_cert.specs.Choices.{IsMetChoice}
use Rattle.tv_cert.specs.OwesViews.{destination_owes}
use Rattle.tv_check.proofs.obligations.piece_choice_is_met.Goals as goal

pub returns : goal.returns
returns c = subst (λ (x : Type 0). x) (λ i. IsTrue c.choice_is_met.result ↔ IsMetChoice (cases_of c.args.about.now).variables (cases_of c.args.about.now).cases (place_of c.args.piece.now) c.args.stop (destination_owes (cases_of c.args.about.now).variables c.args.piece.now c.args.destination.now) (as_given (c.rows.ensures i)) c.args.tree.now) c.choice_is_met.ensures
