use Rattle.tv_pre.proofs.ToldLemmas.{settled_told, plain_told}
use Rattle.tv_pre.proofs.laws.settled_claims_are_told.Goals as goal

pub returns-clause-tame : goal.returns-clause-tame
returns-clause-tame c about claim f budget gap = settled_told about claim f budget gap

pub returns-clause-plain : goal.returns-clause-plain
returns-clause-plain c about proper claim budget gap = plain_told about proper claim budget gap
