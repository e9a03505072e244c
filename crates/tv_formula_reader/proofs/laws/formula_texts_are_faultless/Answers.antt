use Rattle.tv_formula_reader.proofs.OneFormula.{faultless}
use Rattle.tv_formula_reader.proofs.laws.formula_texts_are_faultless.Goals as goal

pub returns : goal.returns
returns c = faultless
