-- A formula that is read is no empty conjunction or disjunction, and has none within.
use Rattle.std.proofs.Common.{◌≡◌, ℕ, List, [], ◌∷◌, Result, Ok, Err}
use Rattle.std.specs.Prelude.{IfOk}
use Rattle.tv_program.specs.Systems.{System}
use Rattle.tv_formula.specs.declared.formula.Formula.{Formula}
use Rattle.tv_formula.specs.declared.tree.Path.{Path}
use Rattle.tv_formula.specs.Formulas.{property_of}
use Rattle.tv_formula.specs.Parts.{HasParts, AreSomeParts, AllHaveParts}
use Rattle.tv_formula.specs.Properties.{Property, Properties, all_of, some_of}
use Rattle.tv_formula.specs.Views.{properties_of}
use Rattle.tv_formula_reader.specs.declared.fault.FormulaFault.{FormulaFault}
use Rattle.tv_formula_reader.specs.declared.operators.Single.{Single}
use Rattle.tv_formula_reader.specs.declared.operators.Single.TheVariants.{Successor, Finally, Globally}
use Rattle.tv_formula_reader.specs.Operators.{applied}
use Rattle.tv_formula_reader.specs.Signs.{Sign}
use Rattle.tv_formula_reader.specs.FormulaTexts.{joined, IsPlain, always, never, ends, located, denied, bracketed, of_one, of_two, IsArgument, enclosed, IsLiteral, plain, comparison, AreLiterals, no_literal, and, IsConjunction, literals, AreConjunctions, no_conjunction, or, IsFormula, conjunctions, IsFormulaText}

applied_parts : (p : Path) (k : Single) (f : Property) → HasParts f → HasParts (applied p k f)
applied_parts p Successor f h = h
applied_parts p Finally f h = (tt {0}, h)
applied_parts p Globally f h = (h, tt {0})

joined_parts : (make : Properties → Property) → ((fs : Properties) → AreSomeParts fs → HasParts (make fs)) → (f : Property) (fs : List Property) → HasParts f → AllHaveParts (properties_of fs) → HasParts (joined make (f ∷ fs))
joined_parts make are f [] h hs = h
joined_parts make are f (g ∷ fs) h hs = are (properties_of (f ∷ g ∷ fs)) (h, hs)

mutual
  plain_parts : {n : ℕ} {f : Property} {ts rest : List Sign} → IsPlain n f ts rest → HasParts f
  plain_parts (always e) = tt {0}
  plain_parts (never e) = tt {0}
  plain_parts (ends e w) = tt {0}
  plain_parts (located x w y z u) = tt {0}
  plain_parts (denied e d) = plain_parts d
  plain_parts (bracketed d) = argument_parts d
  plain_parts (of_one {n} {o} {t} {c} {p} {k} {f} {ts} {rest} x w y d) = applied_parts p k f (argument_parts d)
  plain_parts (of_two x w y d e) = (argument_parts d, argument_parts e)

  argument_parts : {n : ℕ} {f : Property} {ts rest : List Sign} → IsArgument n f ts rest → HasParts f
  argument_parts (enclosed x d y) = formula_parts d

  literal_parts : {n : ℕ} {f : Property} {ts rest : List Sign} → IsLiteral n f ts rest → HasParts f
  literal_parts (plain d) = plain_parts d
  literal_parts (comparison left t right first e r second) = tt {0}

  literals_parts : {n : ℕ} {fs : List Property} {ts rest : List Sign} → AreLiterals n fs ts rest → AllHaveParts (properties_of fs)
  literals_parts no_literal = tt {0}
  literals_parts (and e d ds) = (literal_parts d, literals_parts ds)

  conjunction_parts : {n : ℕ} {f : Property} {ts rest : List Sign} → IsConjunction n f ts rest → HasParts f
  conjunction_parts (literals {n} {f} {fs} {ts} {us} {rest} d ds) = joined_parts all_of (λ gs h. h) f fs (literal_parts d) (literals_parts ds)

  conjunctions_parts : {n : ℕ} {fs : List Property} {ts rest : List Sign} → AreConjunctions n fs ts rest → AllHaveParts (properties_of fs)
  conjunctions_parts no_conjunction = tt {0}
  conjunctions_parts (or e d ds) = (conjunction_parts d, conjunctions_parts ds)

  formula_parts : {n : ℕ} {f : Property} {ts rest : List Sign} → IsFormula n f ts rest → HasParts f
  formula_parts (conjunctions {n} {f} {fs} {ts} {us} {rest} d ds) = joined_parts some_of (λ gs h. h) f fs (conjunction_parts d) (conjunctions_parts ds)

-- what is answered for a text
pub read_parts : (p : System) (text : List ℕ) (r : Result Formula FormulaFault) → IfOk r (λ f. IsFormulaText p text (property_of f)) → IfOk r (λ f. HasParts (property_of f))
read_parts p text (Ok f) h = formula_parts h.derived
read_parts p text (Err fault) h = tt {0}
