use Rattle.tv_program.specs.Programs.{system_of}
use Rattle.tv_program.specs.Steps.{Steps}
use Rattle.tv_formula.specs.Formulas.{property_of}
use Rattle.tv_meaning.proofs.Negation.{negation_excludes}
use Rattle.tv_meaning.proofs.LocalNegation.{negation_says}
use Rattle.tv_meaning.proofs.laws.negation_excludes.Goals as goal

pub returns : goal.returns
returns c = record {
  excludes = λ s n h. negation_excludes (Steps (system_of c.args.program.now)) (property_of c.args.formula.now) s n h;
  exact = negation_says (Steps (system_of c.args.program.now)) (property_of c.args.formula.now);
}
