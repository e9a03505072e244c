-- What the search for a column that is too wide goes through.
use Rattle.std.specs.Prelude.{◌≡◌, ℕ, ◌^◌, min, List, [], ◌∷◌, map, All, Option, MatchOption, Bool, true, pos, unsigned_abs}
use Rattle.std.specs.List.{list_all}
use Rattle.tv_program.specs.declared.tree.Expr.{Expr}
use Rattle.tv_program.specs.Trees.{Expressions}
use Rattle.tv_program.specs.Views.{expression}
use Rattle.tv_linear.specs.Arithmetic.{constant_row, plus}
use Rattle.tv_linear.specs.Linear.{Linear, entry}
use Rattle.tv_formula.specs.Properties.{Property}
use Rattle.tv_cases.specs.Comparisons.{own_form}
use Rattle.tv_cases.specs.EdgeCases.{columns_from}
use Rattle.tv_cases.specs.Forms.{is_narrow, times, forms_are_narrow}
use Rattle.tv_causes.specs.declared.join.Capped.{Capped}
use Rattle.tv_causes.specs.declared.join.Join.{Join}
use Rattle.tv_causes.specs.declared.join.Join.TheVariants.{Sum, Product}
use Rattle.tv_causes.specs.Widths.{all_parts, HasOwnRows, IsFirstWideOf}

-- whether each of some expressions has a linear form over n variables
abbrev pub have_forms : ℕ → Expressions → Bool
have_forms n es = forms_are_narrow n n (columns_from n 0 n) es

-- their linear forms
abbrev pub all_forms : ℕ → List Expr → List Linear
all_forms n es = map (λ e. own_form n (expression e)) es

-- a row, and rows added to it, or multiplied by it
abbrev pub sum_of : Linear → List Linear → Linear
sum_of t [] = t
sum_of t (r ∷ rows) = sum_of (plus t r) rows

abbrev pub product_of : Linear → List Linear → Linear
product_of t [] = t
product_of t (r ∷ rows) = product_of (times t r) rows

-- the sum or product of rows over n columns
abbrev pub joined : Join → ℕ → List Linear → Linear
joined Sum n rows = sum_of (constant_row n (pos 0)) rows
joined Product n rows = product_of (constant_row n (pos 1)) rows

-- these are the magnitudes of the row at the column and at its constant, up to 2^62
pub record IsCapped (t : Linear) (column : ℕ) (c : Capped) : Type 0 where
  pub at_column : c.at_column ≡ min (unsigned_abs (entry t column)) (2 ^ 62)
  pub constant : c.constant ≡ min (unsigned_abs t.constant) (2 ^ 62)

-- of comparisons it is told that no part of them is too wide and each has rows, or which column is the first that is too wide
abbrev pub TellsBoth : ℕ → List Property → Option ℕ → Type 0
TellsBoth n fs found = MatchOption found ((list_all is_narrow (all_parts n fs) ≡ true) × All (HasOwnRows n) fs) (IsFirstWideOf (all_parts n fs))
