use Rattle.std.proofs.Common.{◌↔◌, IsTrue, Some, subst, sym}
use Rattle.tv_cases.specs.Systems.{cases_of}
use Rattle.tv_cert.specs.declared.node.Proof.TheVariants.{Chosen}
use Rattle.tv_cert.specs.Obligations.{OwedMet}
use Rattle.tv_cert.specs.OwesViews.{owed_by}
use Rattle.tv_check.proofs.obligations.is_chosen.Goals as goal

pub returns-in-Choice : goal.returns-in-Choice
returns-in-Choice c = subst (λ o. IsTrue c.piece_choice_is_met.result ↔ OwedMet (owed_by (cases_of c.args.about.now) o) (Some (Chosen c.args.tree.now))) (sym c.in-Choice.is) c.piece_choice_is_met.ensures
