-- Whether the variables of a tree are among the first `count`.
use Rattle.std.specs.Prelude.{ℕ, Bool, true, ◌&&◌, nat_lt}
use Rattle.tv_program.specs.Trees.{Expression, number, variable, draw, minus, sum, product, Expressions, no_part, part, Condition, truth, compare, negated, all_of, some_of, Conditions, no_test, test}

abbrev mutual
  pub are_named : ℕ → Expression → Bool
  are_named count (number z) = true
  are_named count (variable v) = nat_lt v count
  are_named count (draw d) = true
  are_named count (minus e) = are_named count e
  are_named count (sum es) = all_are_named count es
  are_named count (product es) = all_are_named count es

  pub all_are_named : ℕ → Expressions → Bool
  all_are_named count no_part = true
  all_are_named count (part e es) = are_named count e && all_are_named count es

abbrev mutual
  pub test_is_named : ℕ → Condition → Bool
  test_is_named count (truth b) = true
  test_is_named count (compare r e f) = are_named count e && are_named count f
  test_is_named count (negated c) = test_is_named count c
  test_is_named count (all_of cs) = tests_are_named count cs
  test_is_named count (some_of cs) = tests_are_named count cs

  pub tests_are_named : ℕ → Conditions → Bool
  tests_are_named count no_test = true
  tests_are_named count (test c cs) = test_is_named count c && tests_are_named count cs
