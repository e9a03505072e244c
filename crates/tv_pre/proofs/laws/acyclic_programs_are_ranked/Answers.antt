use Rattle.tv_pre.proofs.AcyclicRanks.{acyclic_ranked, never_refused}
use Rattle.tv_pre.proofs.laws.acyclic_programs_are_ranked.Goals as goal

pub returns-clause-ranked : goal.returns-clause-ranked
returns-clause-ranked c about acyclic = acyclic_ranked about acyclic

pub returns-clause-unrefused : goal.returns-clause-unrefused
returns-clause-unrefused c about proper acyclic pivots system fault h = never_refused about acyclic proper pivots system fault h.refuses
