use Rattle.std.proofs.Common.{◌≡◌, ℕ, List, sym, subst, rules}
use Rattle.tv_program.specs.Programs.{system_of}
use Rattle.tv_formula.specs.Formulas.{property_of}
use Rattle.tv_formula_spelling.specs.Formulas.{text_of, IsFormulaAgain}
use Rattle.tv_formula_spelling.proofs.FormulaAgain.{read_formula_again}
use Rattle.tv_formula_spelling.proofs.formulas.write_formula.Goals as goal

pub returns-clause-again : goal.returns-clause-again
returns-clause-again c =
    let p = system_of c.args.program.now in
    let f = property_of c.args.formula.now in
    let written : c.append_formula.new.out.items ≡ text_of p f = search rules in
    subst (λ (text : List ℕ). IsFormulaAgain p f text) (sym written) (read_formula_again p f)
