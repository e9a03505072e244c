use Rattle.tv_pre.proofs.RankedToldLemmas.{ranked_told}
use Rattle.tv_pre.proofs.laws.ranked_untils_are_told.Goals as goal

pub returns : goal.returns
returns c about limits claim f budget gap = ranked_told about limits claim f budget gap
