use Rattle.tv_pre.proofs.WithinSize.{refusal_within_size}
use Rattle.tv_pre.proofs.laws.refusals_are_within_size.Goals as goal

pub returns : goal.returns
returns c about cases claim f budget = refusal_within_size about cases claim f budget
