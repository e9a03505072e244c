use Rattle.tv_pre.proofs.SizedLemmas.{within_size}
use Rattle.tv_pre.proofs.laws.regions_are_within_size.Goals as goal

pub returns : goal.returns
returns c about f part region = within_size about f part region
