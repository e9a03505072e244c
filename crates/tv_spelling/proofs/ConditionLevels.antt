-- How deep brackets and signs are nested in the text of a condition, and which conditions texts stand for.
use Rattle.std.specs.Prelude.{ℕ, suc, max, Bool, true, false, ◌&&◌, ◌||◌, not}
use Rattle.tv_program.specs.Trees.{Condition, truth, compare, negated, all_of, some_of, Conditions, no_test, test}
use Rattle.tv_spelling.specs.Conditions.{is_truth, is_negated, is_all, is_some}
use Rattle.tv_spelling.proofs.SumLevels.{bracket_levels, sum_levels, is_regular}

abbrev mutual
  pub condition_levels : Condition → ℕ
  condition_levels (truth b) = 0
  condition_levels (compare r e f) = max (sum_levels e) (sum_levels f)
  condition_levels (negated c) = suc (bracket_levels (not (is_truth c || is_negated c)) (condition_levels c))
  condition_levels (all_of cs) = all_levels cs
  condition_levels (some_of cs) = some_levels cs

  pub all_levels : Conditions → ℕ
  all_levels no_test = 0
  all_levels (test c cs) = max (bracket_levels (is_all c || is_some c) (condition_levels c)) (all_levels cs)

  pub some_levels : Conditions → ℕ
  some_levels no_test = 0
  some_levels (test c cs) = max (bracket_levels (is_some c) (condition_levels c)) (some_levels cs)

abbrev pub denied_levels : Condition → ℕ
denied_levels c = bracket_levels (not (is_truth c || is_negated c)) (condition_levels c)

abbrev pub literal_levels : Condition → ℕ
literal_levels c = bracket_levels (is_all c || is_some c) (condition_levels c)

abbrev pub conjunction_levels : Condition → ℕ
conjunction_levels c = bracket_levels (is_some c) (condition_levels c)

abbrev pub are_two_tests : Conditions → Bool
are_two_tests (test c (test d cs)) = true
are_two_tests cs = false

abbrev mutual
  -- the expressions are regular, and each list has two parts at least
  pub is_regular_test : Condition → Bool
  is_regular_test (truth b) = true
  is_regular_test (compare r e f) = is_regular e && is_regular f
  is_regular_test (negated c) = is_regular_test c
  is_regular_test (all_of cs) = are_two_tests cs && are_regular_tests cs
  is_regular_test (some_of cs) = are_two_tests cs && are_regular_tests cs

  pub are_regular_tests : Conditions → Bool
  are_regular_tests no_test = true
  are_regular_tests (test c cs) = is_regular_test c && are_regular_tests cs
