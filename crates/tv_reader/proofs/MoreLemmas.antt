-- What fits fewer draws fits more, and commands one by one.
use Rattle.std.proofs.Common.{◌≡◌, ℕ, ◌+◌, ◌<◌, ◌≤◌, Bool, true, List, [], ◌∷◌, ◌++◌, refl, arith}
use Rattle.std.specs.List.{list_all}
use Rattle.std.proofs.lemmas.Bool.Decides.{nat_tests}
use Rattle.tv_program.specs.Trees.{Expression, number, variable, draw, minus, sum, product, Expressions, no_part, part, Condition, truth, compare, negated, all_of, some_of, Conditions, no_test, test, Instruction, assume, assign}
use Rattle.tv_program.specs.Limits.{expression_fits, expressions_fit, condition_fits, conditions_fit, instruction_fits}
use Rattle.tv_language.specs.Programs.{draws_of, draws_counted}
use Rattle.std.proofs.lemmas.Bool.{and_from, and_parts}

module _ (v c d : ℕ) (le : c ≤ d) where
  mutual
    expression_more : (e : Expression) → expression_fits v c e ≡ true → expression_fits v d e ≡ true
    expression_more (number z) h = h
    expression_more (variable w) h = h
    expression_more (draw k) h = let l : k < c = grind (arith, nat_tests) in let m : k < d = omega arith in grind (arith, nat_tests)
    expression_more (minus e) h = expression_more e h
    expression_more (sum es) h = expressions_more es h
    expression_more (product es) h = and_from _ _ ((and_parts _ _ h).0) (expressions_more es ((and_parts _ _ h).1))

    expressions_more : (es : Expressions) → expressions_fit v c es ≡ true → expressions_fit v d es ≡ true
    expressions_more no_part h = refl
    expressions_more (part e es) h = and_from _ _ (expression_more e ((and_parts _ _ h).0)) (expressions_more es ((and_parts _ _ h).1))

  mutual
    condition_more : (e : Condition) → condition_fits v c e ≡ true → condition_fits v d e ≡ true
    condition_more (truth b) h = refl
    condition_more (compare r e f) h = and_from _ _ (expression_more e ((and_parts _ _ h).0)) (expression_more f ((and_parts _ _ h).1))
    condition_more (negated e) h = condition_more e h
    condition_more (all_of es) h = conditions_more es h
    condition_more (some_of es) h = conditions_more es h

    conditions_more : (es : Conditions) → conditions_fit v c es ≡ true → conditions_fit v d es ≡ true
    conditions_more no_test h = refl
    conditions_more (test e es) h = and_from _ _ (condition_more e ((and_parts _ _ h).0)) (conditions_more es ((and_parts _ _ h).1))

  instruction_more : (i : Instruction) → instruction_fits v c i ≡ true → instruction_fits v d i ≡ true
  instruction_more (assume e) h = and_from _ _ (condition_more e ((and_parts _ _ h).0)) ((and_parts _ _ h).1)
  instruction_more (assign w e) h = and_from _ _ (and_from _ _ ((and_parts _ _ ((and_parts _ _ h).0)).0) (expression_more e ((and_parts _ _ ((and_parts _ _ h).0)).1))) ((and_parts _ _ h).1)

  pub all_more : (is : List Instruction) → list_all (instruction_fits v c) is ≡ true → list_all (instruction_fits v d) is ≡ true
  all_more [] h = refl
  all_more (i ∷ is) h = and_from _ _ (instruction_more i ((and_parts _ _ h).0)) (all_more is ((and_parts _ _ h).1))

pub all_with : {X : Type 0} (p : X → Bool) (xs : List X) (x : X) → list_all p xs ≡ true → p x ≡ true → list_all p (xs ++ x ∷ []) ≡ true
all_with p [] x h i = and_from _ _ i refl
all_with p (y ∷ xs) x h i = and_from _ _ ((and_parts _ _ h).0) (all_with p xs x ((and_parts _ _ h).1) i)

pub counted_with : (cs : List Instruction) (c : Instruction) → draws_counted (cs ++ c ∷ []) ≡ draws_counted cs + draws_of c
counted_with [] c = omega arith
counted_with (x ∷ cs) c = let again = counted_with cs c in omega arith
