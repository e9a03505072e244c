use Rattle.std.specs.Prelude.{List, [], ◌∷◌, ℤ, pos, neg_ℤ, ◌+ℤ◌, ◌*ℤ◌, Bool, true, false, not, ◌&&◌, ◌||◌, int_lt, slice_index_or, slice_set, Option, None, Some, cond}
use Rattle.std.specs.Ordering.{int_eq}
use Rattle.tv_program.specs.declared.tree.Relation.{Relation}
use Rattle.tv_program.specs.declared.tree.Relation.TheVariants.{Less, LessEqual, Greater, GreaterEqual, Equal, NotEqual}
use Rattle.tv_program.specs.Trees.{Expression, number, variable, draw, minus, sum, product, Expressions, no_part, part, Condition, truth, compare, negated, all_of, some_of, Conditions, no_test, test, Instruction, assume, assign}

abbrev mutual
  -- the number of an expression at these values and draws
  pub value_of : Expression → List ℤ → List ℤ → ℤ
  value_of (number z) xs ds = z
  value_of (variable v) xs ds = slice_index_or xs v (pos 0)
  value_of (draw d) xs ds = slice_index_or ds d (pos 0)
  value_of (minus e) xs ds = neg_ℤ (value_of e xs ds)
  value_of (sum es) xs ds = sum_of es xs ds
  value_of (product es) xs ds = product_of es xs ds

  pub sum_of : Expressions → List ℤ → List ℤ → ℤ
  sum_of no_part xs ds = pos 0
  sum_of (part e es) xs ds = value_of e xs ds +ℤ sum_of es xs ds

  pub product_of : Expressions → List ℤ → List ℤ → ℤ
  product_of no_part xs ds = pos 1
  product_of (part e es) xs ds = value_of e xs ds *ℤ product_of es xs ds

-- whether the relation holds between two numbers
abbrev pub compares : Relation → ℤ → ℤ → Bool
compares Less a b = int_lt a b
compares LessEqual a b = not (int_lt b a)
compares Greater a b = int_lt b a
compares GreaterEqual a b = not (int_lt a b)
compares Equal a b = int_eq a b
compares NotEqual a b = not (int_eq a b)

abbrev mutual
  -- whether a condition is true at these values and draws
  pub truth_of : Condition → List ℤ → List ℤ → Bool
  truth_of (truth b) xs ds = b
  truth_of (compare r e f) xs ds = compares r (value_of e xs ds) (value_of f xs ds)
  truth_of (negated c) xs ds = not (truth_of c xs ds)
  truth_of (all_of cs) xs ds = all_true cs xs ds
  truth_of (some_of cs) xs ds = some_true cs xs ds

  pub all_true : Conditions → List ℤ → List ℤ → Bool
  all_true no_test xs ds = true
  all_true (test c cs) xs ds = truth_of c xs ds && all_true cs xs ds

  pub some_true : Conditions → List ℤ → List ℤ → Bool
  some_true no_test xs ds = false
  some_true (test c cs) xs ds = truth_of c xs ds || some_true cs xs ds

-- a value that is there only where a test holds
abbrev pub only_if : {A : Type 0} → Bool → Option A → Option A
only_if b o = cond b o None

-- the values after the instructions, or nothing where an assumption is false when it is reached
abbrev pub executed : List Instruction → List ℤ → List ℤ → Option (List ℤ)
executed [] xs ds = Some xs
executed (assume c ∷ rest) xs ds = only_if (truth_of c xs ds) (executed rest xs ds)
executed (assign v e ∷ rest) xs ds = executed rest (slice_set xs v (value_of e xs ds)) ds
