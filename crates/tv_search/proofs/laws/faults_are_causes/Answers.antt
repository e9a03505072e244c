use Rattle.tv_search.proofs.ToldLemmas.{cause_of}
use Rattle.tv_search.proofs.laws.faults_are_causes.Goals as goal

pub returns : goal.returns
returns P c rest ps about l budget fault = cause_of rest ps about l budget fault
