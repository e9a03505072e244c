use Rattle.tv_pre.proofs.FullLemmas.{full_has_all, full_tell}
use Rattle.tv_pre.proofs.laws.full_regions_tell.Goals as goal

pub returns-clause-all : goal.returns-clause-all
returns-clause-all c about f = full_has_all about f

pub returns-clause-tell : goal.returns-clause-tell
returns-clause-tell c about f = full_tell about f
