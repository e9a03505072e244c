use Rattle.tv_cert_reader.proofs.RightOrFaulty.{right_or_at_fault}
use Rattle.tv_cert_reader.proofs.laws.right_or_at_fault.Goals as goal

pub returns : goal.returns
returns c = right_or_at_fault
