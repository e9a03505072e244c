-- The one spelling of formulas.
use Rattle.std.specs.Prelude.{ℕ, Bool, true, false, ◌||◌, not, List, [], ◌∷◌, ◌++◌, codes, slice_index_or, if◌then◌else◌}
use Rattle.tv_program.specs.Words.{Word}
use Rattle.tv_program.specs.Systems.{System}
use Rattle.tv_formula.specs.declared.tree.Path.{Path}
use Rattle.tv_formula.specs.declared.tree.Path.TheVariants.{Every, Any}
use Rattle.tv_formula.specs.declared.tree.Shape.{Shape}
use Rattle.tv_formula.specs.declared.tree.Shape.TheVariants.{Until, Weak, Release, Strong}
use Rattle.tv_formula.specs.Properties.{Property, truth, compare, at, term, negated, all_of, some_of, next, fix, Properties, none, more}
use Rattle.tv_formula_spelling.specs.declared.formulas.Form.{Form}
use Rattle.tv_formula_spelling.specs.declared.formulas.Form.TheVariants.{Finally, Globally, Both}
use Rattle.tv_formula_reader.specs.FormulaTexts.{IsFormulaText}
use Rattle.tv_spelling.specs.Sums.{in_brackets, expression_text}
use Rattle.tv_spelling.specs.Conditions.{truth_text, relation_text}

-- the letter of a path
abbrev pub path_letter : Path → ℕ
path_letter Every = 65
path_letter Any = 69

-- the letter of an operator of two arguments
abbrev pub shape_letter : Shape → ℕ
shape_letter Until = 85
shape_letter Weak = 87
shape_letter Release = 82
shape_letter Strong = 77

-- "[" and the two letters of an operator, and "]"
abbrev pub operator_text : Path → ℕ → List ℕ
operator_text p letter = 91 ∷ path_letter p ∷ letter ∷ 93 ∷ []

-- what is denied stands in brackets where it is a comparison or has parts that are joined
abbrev pub is_joined : Property → Bool
is_joined (compare r a b) = true
is_joined (all_of fs) = true
is_joined (some_of fs) = true
is_joined f = false

abbrev pub is_all : Property → Bool
is_all (all_of fs) = true
is_all f = false

abbrev pub is_some : Property → Bool
is_some (some_of fs) = true
is_some f = false

abbrev pub as_denied : Property → List ℕ → List ℕ
as_denied f text = in_brackets (is_joined f) text

-- a formula inside && stands in brackets where it is && or ||
abbrev pub as_literal : Property → List ℕ → List ℕ
as_literal f text = in_brackets (is_all f || is_some f) text

-- a formula inside || stands in brackets where it is ||
abbrev pub as_conjunction : Property → List ℕ → List ℕ
as_conjunction f text = in_brackets (is_some f) text

abbrev pub argument_text : List ℕ → List ℕ
argument_text text = in_brackets true text

-- `F` and `G` are written wherever the tree has their form
abbrev pub is_truth : Property → Bool → Bool
is_truth (truth true) b = b
is_truth (truth false) b = not b
is_truth f b = false

abbrev pub form_of : Shape → Property → Property → Form
form_of Until f g = if is_truth f true then Finally else Both
form_of Weak f g = if is_truth g false then Globally else Both
form_of s f g = Both

abbrev pub text_by : Path → Shape → Form → List ℕ → List ℕ → List ℕ
text_by p s Finally one other = operator_text p 70 ++ argument_text other
text_by p s Globally one other = operator_text p 71 ++ argument_text one
text_by p s Both one other = operator_text p (shape_letter s) ++ (argument_text one ++ argument_text other)

abbrev pub fix_text : Path → Shape → Property → Property → List ℕ → List ℕ → List ℕ
fix_text p s f g one other = text_by p s (form_of s f g) one other

abbrev mutual
  -- the text of a formula whose variables and locations have these words, without brackets round the whole
  pub formula_text : List Word → List Word → Property → List ℕ
  formula_text words labels (truth b) = truth_text b
  formula_text words labels (compare r a b) = expression_text words a ++ (relation_text r ++ expression_text words b)
  formula_text words labels (at l) = codes "at(" ++ (slice_index_or labels l [] ++ codes ")")
  formula_text words labels term = codes "term"
  formula_text words labels (negated f) = codes "!" ++ as_denied f (formula_text words labels f)
  formula_text words labels (all_of fs) = all_text words labels fs
  formula_text words labels (some_of fs) = some_text words labels fs
  formula_text words labels (next p f) = operator_text p 88 ++ argument_text (formula_text words labels f)
  formula_text words labels (fix p s f g) = fix_text p s f g (formula_text words labels f) (formula_text words labels g)

  pub all_text : List Word → List Word → Properties → List ℕ
  all_text words labels none = []
  all_text words labels (more f fs) = as_literal f (formula_text words labels f) ++ further_all_text words labels fs

  pub further_all_text : List Word → List Word → Properties → List ℕ
  further_all_text words labels none = []
  further_all_text words labels (more f fs) = codes " && " ++ (as_literal f (formula_text words labels f) ++ further_all_text words labels fs)

  pub some_text : List Word → List Word → Properties → List ℕ
  some_text words labels none = []
  some_text words labels (more f fs) = as_conjunction f (formula_text words labels f) ++ further_some_text words labels fs

  pub further_some_text : List Word → List Word → Properties → List ℕ
  further_some_text words labels none = []
  further_some_text words labels (more f fs) = codes " || " ++ (as_conjunction f (formula_text words labels f) ++ further_some_text words labels fs)

-- the text over the words of a program
abbrev pub text_of : System → Property → List ℕ
text_of p f = formula_text p.variables p.locations f

-- where some text is a text of the formula over the words of the program, this one is, too
abbrev pub IsFormulaAgain : System → Property → List ℕ → Type 0
IsFormulaAgain p f text = (t : List ℕ) → IsFormulaText p t f → IsFormulaText p text f
