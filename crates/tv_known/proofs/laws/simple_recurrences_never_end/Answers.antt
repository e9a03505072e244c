use Rattle.tv_known.proofs.Recurring.{never_end}
use Rattle.tv_known.proofs.laws.simple_recurrences_never_end.Goals as goal

pub returns : goal.returns
returns c about simple = never_end about simple
