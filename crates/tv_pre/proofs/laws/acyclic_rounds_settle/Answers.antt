use Rattle.tv_pre.proofs.SettledRounds.{acyclic_round, none_unsettled}
use Rattle.tv_pre.proofs.laws.acyclic_rounds_settle.Goals as goal

pub returns-clause-rounds : goal.returns-clause-rounds
returns-clause-rounds g c about proper path shape = acyclic_round about proper path shape g.S.Sides.hold g.S.Sides.end

pub returns-clause-formulas : goal.returns-clause-formulas
returns-clause-formulas g c about proper f = none_unsettled about proper f
