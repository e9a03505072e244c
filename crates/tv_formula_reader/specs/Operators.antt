-- The words of operators: a letter for the path and one for what is said of it.
use Rattle.std.specs.Prelude.{ℕ, true, false, [], ◌∷◌, ◌==◌, Option, None, Some, if◌then◌else◌}
use Rattle.tv_formula.specs.declared.tree.Path.{Path}
use Rattle.tv_formula.specs.declared.tree.Path.TheVariants.{Every, Any}
use Rattle.tv_formula.specs.declared.tree.Shape.{Shape}
use Rattle.tv_formula.specs.declared.tree.Shape.TheVariants.{Until, Weak, Release, Strong}
use Rattle.tv_formula_reader.specs.declared.operators.Single.{Single}
use Rattle.tv_formula_reader.specs.declared.operators.Single.TheVariants.{Successor, Finally, Globally}
use Rattle.tv_formula_reader.specs.declared.operators.Operator.{Operator}
use Rattle.tv_formula_reader.specs.declared.operators.Operator.TheVariants.{One, Two}
use Rattle.tv_formula.specs.Properties.{Property, truth, next, fix}
use Rattle.tv_program.specs.Words.{Word}

-- A or E
abbrev pub path_of : ℕ → Option Path
path_of letter = if letter == 65 then Some Every else (if letter == 69 then Some Any else None)

-- X, F or G
abbrev pub single_of : ℕ → Option Single
single_of letter = if letter == 88 then Some Successor else (if letter == 70 then Some Finally else (if letter == 71 then Some Globally else None))

-- U, W, R or M
abbrev pub shape_of : ℕ → Option Shape
shape_of letter = if letter == 85 then Some Until else (if letter == 87 then Some Weak else (if letter == 82 then Some Release else (if letter == 77 then Some Strong else None)))

abbrev pub operator_by : Option Path → Option Single → Option Shape → Option Operator
operator_by (Some p) (Some k) shape = Some (One p k)
operator_by (Some p) None (Some s) = Some (Two p s)
operator_by p k s = None

-- the operator that a word of two letters is
abbrev pub operator_of : Word → Option Operator
operator_of (p ∷ k ∷ []) = operator_by (path_of p) (single_of k) (shape_of k)
operator_of w = None

-- F and G are short for operators of two arguments
abbrev pub applied : Path → Single → Property → Property
applied p Successor f = next p f
applied p Finally f = fix p Until (truth true) f
applied p Globally f = fix p Weak f (truth false)
