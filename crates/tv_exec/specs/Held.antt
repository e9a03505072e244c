use Rattle.std.specs.Prelude.{ℤ, pos, negsuc, ◌^◌, ◌+ℤ◌, ◌*ℤ◌, neg_ℤ, List, slice_index_or, Bool, true, ◌&&◌, nat_lt}
use Rattle.tv_program.specs.Trees.{Expression, number, variable, draw, minus, sum, product, Expressions, no_part, part, Condition, truth, compare, negated, all_of, some_of, Conditions, no_test, test}
use Rattle.tv_program.specs.Meaning.{value_of}

-- whether the number is one of an i128: from -2^127 to 2^127 - 1
abbrev pub is_held : ℤ → Bool
is_held (pos n) = nat_lt n (2 ^ 127)
is_held (negsuc n) = nat_lt n (2 ^ 127)

abbrev mutual
  -- whether the value of each part of an expression is held, and each sum and product of the first parts of a list
  pub is_exact : Expression → List ℤ → List ℤ → Bool
  is_exact (number z) xs ds = is_held z
  is_exact (variable v) xs ds = is_held (slice_index_or xs v (pos 0))
  is_exact (draw d) xs ds = is_held (slice_index_or ds d (pos 0))
  is_exact (minus e) xs ds = is_exact e xs ds && is_held (neg_ℤ (value_of e xs ds))
  is_exact (sum es) xs ds = adds_exactly (pos 0) es xs ds
  is_exact (product es) xs ds = multiplies_exactly (pos 1) es xs ds

  -- the same of the parts of a list and of what they make, added one by one to a number
  pub adds_exactly : ℤ → Expressions → List ℤ → List ℤ → Bool
  adds_exactly total no_part xs ds = true
  adds_exactly total (part e es) xs ds =
      is_exact e xs ds && (is_held (total +ℤ value_of e xs ds) && adds_exactly (total +ℤ value_of e xs ds) es xs ds)

  -- the same, where a number is multiplied by them one by one
  pub multiplies_exactly : ℤ → Expressions → List ℤ → List ℤ → Bool
  multiplies_exactly total no_part xs ds = true
  multiplies_exactly total (part e es) xs ds =
      is_exact e xs ds && (is_held (total *ℤ value_of e xs ds) && multiplies_exactly (total *ℤ value_of e xs ds) es xs ds)

abbrev mutual
  -- whether each comparison in a condition is of exact expressions, also after a part that settles the condition
  pub is_exact_test : Condition → List ℤ → List ℤ → Bool
  is_exact_test (truth b) xs ds = true
  is_exact_test (compare r e f) xs ds = is_exact e xs ds && is_exact f xs ds
  is_exact_test (negated c) xs ds = is_exact_test c xs ds
  is_exact_test (all_of cs) xs ds = are_exact_tests cs xs ds
  is_exact_test (some_of cs) xs ds = are_exact_tests cs xs ds

  pub are_exact_tests : Conditions → List ℤ → List ℤ → Bool
  are_exact_tests no_test xs ds = true
  are_exact_tests (test c cs) xs ds = is_exact_test c xs ds && are_exact_tests cs xs ds
