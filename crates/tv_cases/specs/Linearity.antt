use Rattle.std.specs.Prelude.{◌≡◌, ◌≤◌, Bool, true, ◌&&◌, List}
use Rattle.std.specs.List.{list_all}
use Rattle.tv_program.specs.Trees.{Expression, number, variable, draw, minus, sum, product, Expressions, no_part, part, Condition, truth, compare, negated, all_of, some_of, Conditions, no_test, test, Instruction, assume, assign, Transition}
use Rattle.tv_program.specs.Limits.{is_linear_product}

abbrev mutual
  -- whether at most one factor of each product has a variable or a draw
  pub is_linear : Expression → Bool
  is_linear (number z) = true
  is_linear (variable v) = true
  is_linear (draw d) = true
  is_linear (minus e) = is_linear e
  is_linear (sum es) = are_linear es
  is_linear (product es) = is_linear_product es && are_linear es

  pub are_linear : Expressions → Bool
  are_linear no_part = true
  are_linear (part e es) = is_linear e && are_linear es

abbrev mutual
  -- the same of all expressions of a condition
  pub condition_is_linear : Condition → Bool
  condition_is_linear (truth b) = true
  condition_is_linear (compare r e f) = is_linear e && is_linear f
  condition_is_linear (negated c) = condition_is_linear c
  condition_is_linear (all_of cs) = conditions_are_linear cs
  condition_is_linear (some_of cs) = conditions_are_linear cs

  pub conditions_are_linear : Conditions → Bool
  conditions_are_linear no_test = true
  conditions_are_linear (test c cs) = condition_is_linear c && conditions_are_linear cs

abbrev pub instruction_is_linear : Instruction → Bool
instruction_is_linear (assume c) = condition_is_linear c
instruction_is_linear (assign v e) = is_linear e

abbrev pub instructions_are_linear : List Instruction → Bool
instructions_are_linear is = list_all instruction_is_linear is

-- what an edge of a program within limits keeps
pub record IsLinearEdge (e : Transition) : Type 0 where
  pub few_draws : e.draws ≤ 64
  pub linear : instructions_are_linear e.instructions ≡ true
