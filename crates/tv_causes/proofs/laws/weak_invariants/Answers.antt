use Rattle.tv_causes.proofs.laws.weak_invariants.Goals as goal

pub returns : goal.returns
returns c about f told l point cause s run initial steps short place = cause.not_near s run initial steps short place
