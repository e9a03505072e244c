use Rattle.tv_pre.proofs.DecidedLemmas.{decided_told}
use Rattle.tv_pre.proofs.laws.decided_claims_are_told.Goals as goal

pub returns : goal.returns
returns c about limits claim f budget gap = decided_told about limits claim f budget gap
