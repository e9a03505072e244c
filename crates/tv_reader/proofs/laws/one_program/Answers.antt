use Rattle.tv_reader.proofs.OneProgram.{one_program}
use Rattle.tv_reader.proofs.laws.one_program.Goals as goal

pub returns : goal.returns
returns c = one_program
