use Rattle.tv_program.specs.Programs.{system_of}
use Rattle.tv_program.specs.Steps.{Steps}
use Rattle.tv_formula.specs.Formulas.{property_of}
use Rattle.tv_meaning.proofs.Negation.{normal_holds}
use Rattle.tv_meaning.proofs.LocalNegation.{normal_says}
use Rattle.tv_meaning.proofs.laws.normal_implies.Goals as goal

pub returns : goal.returns
returns c = record {
  implies = λ s h. normal_holds (Steps (system_of c.args.program.now)) (property_of c.args.formula.now) s h;
  exact = normal_says (Steps (system_of c.args.program.now)) (property_of c.args.formula.now);
}
