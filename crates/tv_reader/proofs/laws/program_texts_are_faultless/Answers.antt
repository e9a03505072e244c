use Rattle.tv_reader.proofs.OneProgram.{faultless}
use Rattle.tv_reader.proofs.laws.program_texts_are_faultless.Goals as goal

pub returns : goal.returns
returns c = faultless
