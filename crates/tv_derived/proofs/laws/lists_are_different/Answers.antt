use Rattle.tv_derived.proofs.Different.{different}
use Rattle.tv_derived.proofs.laws.lists_are_different.Goals as goal

pub returns : goal.returns
returns c about base f h rows list = different rows list.distinct
