use Rattle.tv_reader.proofs.OneProgram.{one_fault}
use Rattle.tv_reader.proofs.laws.one_first_fault.Goals as goal

pub returns : goal.returns
returns c = one_fault
