use Rattle.tv_choice_refusals.proofs.Refusals.{refusal}
use Rattle.tv_choice_refusals.proofs.laws.choices_are_derived.Goals as goal

pub returns : goal.returns
returns c = λ about base many h l stop rows pieces. refusal about base many h l stop rows pieces
