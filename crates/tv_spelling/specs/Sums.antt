-- The one spelling of expressions: brackets stand only where they are needed.
use Rattle.std.specs.Prelude.{ℕ, Bool, true, false, ◌||◌, List, [], ◌∷◌, ◌++◌, codes, slice_index_or}
use Rattle.std.specs.Fmt.{signed_decimal}
use Rattle.tv_program.specs.Words.{Word}
use Rattle.tv_program.specs.Trees.{Expression, number, variable, draw, minus, sum, product, Expressions, no_part, part}

-- the text, in brackets or not
abbrev pub in_brackets : Bool → List ℕ → List ℕ
in_brackets true text = 40 ∷ text ++ 41 ∷ []
in_brackets false text = text

abbrev pub is_sum : Expression → Bool
is_sum (sum es) = true
is_sum e = false

abbrev pub is_product : Expression → Bool
is_product (product es) = true
is_product e = false

-- a part of a sum stands in brackets where it is a sum itself
abbrev pub as_part : Expression → List ℕ → List ℕ
as_part e text = in_brackets (is_sum e) text

-- a factor, and what a sign stands before, is in brackets where it is a sum or a product
abbrev pub as_factor : Expression → List ℕ → List ℕ
as_factor e text = in_brackets (is_sum e || is_product e) text

abbrev mutual
  -- the text of an expression whose variables have these words, without brackets round the whole
  pub expression_text : List Word → Expression → List ℕ
  expression_text words (number z) = signed_decimal z
  expression_text words (variable v) = slice_index_or words v []
  expression_text words (draw d) = codes "nondet()"
  expression_text words (minus e) = codes "-" ++ as_factor e (expression_text words e)
  expression_text words (sum es) = sum_text words es
  expression_text words (product es) = product_text words es

  pub sum_text : List Word → Expressions → List ℕ
  sum_text words no_part = []
  sum_text words (part e es) = as_part e (expression_text words e) ++ further_parts_text words es

  -- after the first part, what is negative is taken off
  pub further_parts_text : List Word → Expressions → List ℕ
  further_parts_text words no_part = []
  further_parts_text words (part (minus e) es) = codes " - " ++ (as_part e (expression_text words e) ++ further_parts_text words es)
  further_parts_text words (part e es) = codes " + " ++ (as_part e (expression_text words e) ++ further_parts_text words es)

  pub product_text : List Word → Expressions → List ℕ
  product_text words no_part = []
  product_text words (part e es) = as_factor e (expression_text words e) ++ further_factors_text words es

  pub further_factors_text : List Word → Expressions → List ℕ
  further_factors_text words no_part = []
  further_factors_text words (part e es) = codes " * " ++ (as_factor e (expression_text words e) ++ further_factors_text words es)

-- a part after the first, with the sign before it
abbrev pub further_part_text : List Word → Expression → List ℕ
further_part_text words (minus e) = codes " - " ++ as_part e (expression_text words e)
further_part_text words e = codes " + " ++ as_part e (expression_text words e)
