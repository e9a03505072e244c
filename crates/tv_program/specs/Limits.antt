use Rattle.std.specs.Prelude.{ℕ, ◌+◌, ◌^◌, max, List, length, unsigned_abs, Bool, true, false, ◌&&◌, ◌||◌, nat_lt, nat_le, IsTrue}
use Rattle.std.specs.List.{list_all}
use Rattle.tv_program.specs.Trees.{Expression, number, variable, draw, minus, sum, product, Expressions, no_part, part, Condition, truth, compare, negated, all_of, some_of, Conditions, no_test, test, Instruction, assume, assign, Transition}

abbrev mutual
  -- whether the expression has neither a variable nor a draw
  pub is_constant : Expression → Bool
  is_constant (number z) = true
  is_constant (variable v) = false
  is_constant (draw d) = false
  is_constant (minus e) = is_constant e
  is_constant (sum es) = are_constant es
  is_constant (product es) = are_constant es

  pub are_constant : Expressions → Bool
  are_constant no_part = true
  are_constant (part e es) = is_constant e && are_constant es

-- whether at most one of the factors has a variable or a draw
abbrev pub is_linear_product : Expressions → Bool
is_linear_product no_part = true
is_linear_product (part e es) = (is_constant e && is_linear_product es) || are_constant es

abbrev mutual
  -- whether each number is below 2^62 in magnitude, each variable and draw is below these counts, and each product is linear
  pub expression_fits : ℕ → ℕ → Expression → Bool
  expression_fits variables draws (number z) = nat_lt (unsigned_abs z) (2 ^ 62)
  expression_fits variables draws (variable v) = nat_lt v variables
  expression_fits variables draws (draw d) = nat_lt d draws
  expression_fits variables draws (minus e) = expression_fits variables draws e
  expression_fits variables draws (sum es) = expressions_fit variables draws es
  expression_fits variables draws (product es) = is_linear_product es && expressions_fit variables draws es

  pub expressions_fit : ℕ → ℕ → Expressions → Bool
  expressions_fit variables draws no_part = true
  expressions_fit variables draws (part e es) = expression_fits variables draws e && expressions_fit variables draws es

abbrev mutual
  -- the greatest number of nodes on a path
  pub expression_depth : Expression → ℕ
  expression_depth (number z) = 1
  expression_depth (variable v) = 1
  expression_depth (draw d) = 1
  expression_depth (minus e) = 1 + expression_depth e
  expression_depth (sum es) = 1 + expressions_depth es
  expression_depth (product es) = 1 + expressions_depth es

  pub expressions_depth : Expressions → ℕ
  expressions_depth no_part = 0
  expressions_depth (part e es) = max (expression_depth e) (expressions_depth es)

abbrev mutual
  -- whether the parts of the condition fit likewise
  pub condition_fits : ℕ → ℕ → Condition → Bool
  condition_fits variables draws (truth b) = true
  condition_fits variables draws (compare r e f) = expression_fits variables draws e && expression_fits variables draws f
  condition_fits variables draws (negated c) = condition_fits variables draws c
  condition_fits variables draws (all_of cs) = conditions_fit variables draws cs
  condition_fits variables draws (some_of cs) = conditions_fit variables draws cs

  pub conditions_fit : ℕ → ℕ → Conditions → Bool
  conditions_fit variables draws no_test = true
  conditions_fit variables draws (test c cs) = condition_fits variables draws c && conditions_fit variables draws cs

abbrev mutual
  pub condition_depth : Condition → ℕ
  condition_depth (truth b) = 1
  condition_depth (compare r e f) = 1 + max (expression_depth e) (expression_depth f)
  condition_depth (negated c) = 1 + condition_depth c
  condition_depth (all_of cs) = 1 + conditions_depth cs
  condition_depth (some_of cs) = 1 + conditions_depth cs

  pub conditions_depth : Conditions → ℕ
  conditions_depth no_test = 0
  conditions_depth (test c cs) = max (condition_depth c) (conditions_depth cs)

-- whether an instruction fits, with at most 400 nodes on a path
abbrev pub instruction_fits : ℕ → ℕ → Instruction → Bool
instruction_fits variables draws (assume c) = condition_fits variables draws c && nat_le (condition_depth c) 400
instruction_fits variables draws (assign v e) = nat_lt v variables && expression_fits variables draws e && nat_le (expression_depth e) 400

-- whether an edge fits programs of `variables` variables and `locations` locations
abbrev pub transition_fits : ℕ → ℕ → Transition → Bool
transition_fits variables locations e =
    nat_lt e.from locations && nat_lt e.to locations && nat_le e.draws 64 && list_all (instruction_fits variables e.draws) e.instructions

-- the limits of a program: at most 512 variables, 1,024 locations and 4,096 edges, and each edge fits
pub record IsWithinLimits (variables locations start : ℕ) (edges : List Transition) : Type 0 where
  pub few_variables : IsTrue (nat_le variables 512)
  pub few_locations : IsTrue (nat_le locations 1024)
  pub few_edges : IsTrue (nat_le (length edges) 4096)
  pub starts : IsTrue (nat_lt start locations)
  pub edges_fit : IsTrue (list_all (transition_fits variables locations) edges)
