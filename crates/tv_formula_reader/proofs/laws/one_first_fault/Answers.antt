use Rattle.tv_formula_reader.proofs.OneFormula.{one_fault}
use Rattle.tv_formula_reader.proofs.laws.one_first_fault.Goals as goal

pub returns : goal.returns
returns c = one_fault
