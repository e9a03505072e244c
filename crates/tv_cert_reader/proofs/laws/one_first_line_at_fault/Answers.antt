use Rattle.tv_cert_reader.proofs.OneFault.{one_fault}
use Rattle.tv_cert_reader.proofs.laws.one_first_line_at_fault.Goals as goal

pub returns : goal.returns
returns c = one_fault
