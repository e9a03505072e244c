use Rattle.tv_invariant_refusals.proofs.Refused.{refuses}
use Rattle.tv_invariant_refusals.proofs.laws.inductive_parts_are_derived.Goals as goal

pub returns : goal.returns
returns c about = refuses about
