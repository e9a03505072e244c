use Rattle.tv_pre.proofs.WithinSize.{question_within_size}
use Rattle.tv_pre.proofs.laws.questions_are_within_size.Goals as goal

pub returns : goal.returns
returns c about cases claim f budget = question_within_size about cases claim f budget
