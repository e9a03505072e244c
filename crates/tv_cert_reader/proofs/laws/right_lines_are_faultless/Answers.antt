use Rattle.tv_cert_reader.proofs.RightOrFaulty.{right_are_faultless}
use Rattle.tv_cert_reader.proofs.laws.right_lines_are_faultless.Goals as goal

pub returns : goal.returns
returns c = right_are_faultless
