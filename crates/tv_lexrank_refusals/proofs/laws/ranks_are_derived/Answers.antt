use Rattle.tv_lexrank_refusals.proofs.Refused.{steps_refuse, start_refuses, rows_refuse}
use Rattle.tv_lexrank_refusals.proofs.laws.ranks_are_derived.Goals as goal

pub returns-clause-steps : goal.returns-clause-steps
returns-clause-steps c about = steps_refuse about

pub returns-clause-start : goal.returns-clause-start
returns-clause-start c about = start_refuses about

pub returns-clause-rows : goal.returns-clause-rows
returns-clause-rows c about = rows_refuse about
