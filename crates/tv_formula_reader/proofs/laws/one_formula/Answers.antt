use Rattle.tv_formula_reader.proofs.OneFormula.{one_formula}
use Rattle.tv_formula_reader.proofs.laws.one_formula.Goals as goal

pub returns : goal.returns
returns c = one_formula
