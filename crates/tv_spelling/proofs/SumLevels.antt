-- How deep brackets and signs are nested in the text of an expression, and which expressions texts stand for.
use Rattle.std.specs.Prelude.{ℕ, suc, max, ℤ, pos, negsuc, Bool, true, false, ◌&&◌, ◌||◌}
use Rattle.tv_program.specs.Trees.{Expression, number, variable, draw, minus, sum, product, Expressions, no_part, part}
use Rattle.tv_program.specs.Limits.{is_linear_product}
use Rattle.tv_spelling.specs.Sums.{is_sum, is_product}

abbrev pub bracket_levels : Bool → ℕ → ℕ
bracket_levels true n = suc n
bracket_levels false n = n

abbrev mutual
  pub sum_levels : Expression → ℕ
  sum_levels (number z) = 0
  sum_levels (variable v) = 0
  sum_levels (draw d) = 0
  sum_levels (minus e) = suc (bracket_levels (is_sum e || is_product e) (sum_levels e))
  sum_levels (sum es) = parts_levels es
  sum_levels (product es) = factors_levels es

  pub parts_levels : Expressions → ℕ
  parts_levels no_part = 0
  parts_levels (part e es) = max (bracket_levels (is_sum e) (sum_levels e)) (further_levels es)

  pub further_levels : Expressions → ℕ
  further_levels no_part = 0
  further_levels (part (minus e) es) = max (bracket_levels (is_sum e) (sum_levels e)) (further_levels es)
  further_levels (part e es) = max (bracket_levels (is_sum e) (sum_levels e)) (further_levels es)

  pub factors_levels : Expressions → ℕ
  factors_levels no_part = 0
  factors_levels (part e es) = max (bracket_levels (is_sum e || is_product e) (sum_levels e)) (factors_levels es)

abbrev pub part_levels : Expression → ℕ
part_levels e = bracket_levels (is_sum e) (sum_levels e)

abbrev pub factor_levels : Expression → ℕ
factor_levels e = bracket_levels (is_sum e || is_product e) (sum_levels e)

-- no number is negative
abbrev pub is_natural : ℤ → Bool
is_natural (pos n) = true
is_natural (negsuc n) = false

abbrev pub are_two : Expressions → Bool
are_two (part e (part f es)) = true
are_two es = false

abbrev mutual
  -- no number is negative, each list has two parts at least, and products are linear
  pub is_regular : Expression → Bool
  is_regular (number z) = is_natural z
  is_regular (variable v) = true
  is_regular (draw d) = true
  is_regular (minus e) = is_regular e
  is_regular (sum es) = are_two es && are_regular es
  is_regular (product es) = are_two es && (is_linear_product es && are_regular es)

  pub are_regular : Expressions → Bool
  are_regular no_part = true
  are_regular (part e es) = is_regular e && are_regular es
