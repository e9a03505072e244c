use Rattle.std.specs.Prelude.{ℕ, zero, suc, ◌+◌, ◌^◌, List, ℤ, pos, negsuc, Bool, true, false, ◌&&◌, cond, nat_lt, unsigned_abs, slice_index_or}
use Rattle.std.specs.List.{list_all}
use Rattle.tv_linear.specs.Linear.{Linear}
use Rattle.tv_linear.specs.Arithmetic.{constant_row, column_row, plus, opposite, scaled}
use Rattle.tv_program.specs.Trees.{Expression, number, variable, draw, minus, sum, product, Expressions, no_part, part}

-- ---- width

abbrev pub is_narrow_number : ℤ → Bool
is_narrow_number z = nat_lt (unsigned_abs z) (2 ^ 62)

-- whether each number of the row is below 2^62 in magnitude
abbrev pub is_narrow : Linear → Bool
is_narrow r = list_all is_narrow_number r.coefficients && is_narrow_number r.constant

-- ---- products

abbrev pub is_zero : ℤ → Bool
is_zero (pos zero) = true
is_zero (pos (suc n)) = false
is_zero (negsuc n) = false

-- whether the row has no coefficient other than 0
abbrev pub is_number : Linear → Bool
is_number r = list_all is_zero r.coefficients

-- the product of two rows, where one of them is a number
abbrev pub times : Linear → Linear → Linear
times r s = cond (is_number s) (scaled s.constant r) (scaled r.constant s)

-- ---- linear forms

-- The linear form of an expression over w columns: the first n are the variables, the others the draws. Each variable has the term
-- that is given.
abbrev mutual
  pub form : ℕ → ℕ → List Linear → Expression → Linear
  form n w terms (number z) = constant_row w z
  form n w terms (variable v) = slice_index_or terms v (constant_row w (pos 0))
  form n w terms (draw d) = column_row w (n + d)
  form n w terms (minus e) = opposite (form n w terms e)
  form n w terms (sum es) = sum_form n w terms (constant_row w (pos 0)) es
  form n w terms (product es) = product_form n w terms (constant_row w (pos 1)) es

  -- a total with the forms of the parts added
  pub sum_form : ℕ → ℕ → List Linear → Linear → Expressions → Linear
  sum_form n w terms total no_part = total
  sum_form n w terms total (part e es) = sum_form n w terms (plus total (form n w terms e)) es

  -- a total multiplied by the forms of the parts
  pub product_form : ℕ → ℕ → List Linear → Linear → Expressions → Linear
  product_form n w terms total no_part = total
  product_form n w terms total (part e es) = product_form n w terms (times total (form n w terms e)) es

-- whether the linear form of each part of the expression, and its own, is narrow
abbrev mutual
  pub form_is_narrow : ℕ → ℕ → List Linear → Expression → Bool
  form_is_narrow n w terms (number z) = is_narrow (form n w terms (number z))
  form_is_narrow n w terms (variable v) = is_narrow (form n w terms (variable v))
  form_is_narrow n w terms (draw d) = is_narrow (form n w terms (draw d))
  form_is_narrow n w terms (minus e) = form_is_narrow n w terms e && is_narrow (form n w terms (minus e))
  form_is_narrow n w terms (sum es) = forms_are_narrow n w terms es && is_narrow (form n w terms (sum es))
  form_is_narrow n w terms (product es) = forms_are_narrow n w terms es && is_narrow (form n w terms (product es))

  pub forms_are_narrow : ℕ → ℕ → List Linear → Expressions → Bool
  forms_are_narrow n w terms no_part = true
  forms_are_narrow n w terms (part e es) = form_is_narrow n w terms e && forms_are_narrow n w terms es
