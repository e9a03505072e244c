-- What fits an edge without draws has none.
use Rattle.std.proofs.Common.{◌≡◌, ℕ, ◌+◌, Bool, true, false, sum, refl, arith}
use Rattle.std.proofs.lemmas.Bool.{ltb-true}
use Rattle.std.specs.Prelude.{◌&&◌, IsTrue, nat_lt}
use Rattle.tv_program.specs.Trees as trees
use Rattle.tv_program.specs.Trees.{Expression, number, variable, draw, minus, product, Expressions, no_part, part, Condition, truth, compare, negated, all_of, some_of, Conditions, no_test, test}
use Rattle.tv_program.specs.Limits.{is_linear_product, expression_fits, expressions_fit, condition_fits, conditions_fit}
use Rattle.tv_language.specs.Programs.{draws_in, draws_among, draws_tested, draws_of_tests}

first_of : (a b : Bool) → IsTrue (a && b) → IsTrue a
first_of true b h = refl
first_of false b h = absurd cc

second_of : (a b : Bool) → IsTrue (a && b) → IsTrue b
second_of true b h = h
second_of false b h = absurd cc

none_below : (d : ℕ) → IsTrue (nat_lt d 0) → ⊥
none_below d h = absurd (omega (arith, ltb-true d 0 h))

both_none : (a b : ℕ) → a ≡ 0 → b ≡ 0 → a + b ≡ 0
both_none a b h k = omega (arith, h, k)

mutual
  pub none_in : (v : ℕ) (e : Expression) → IsTrue (expression_fits v 0 e) → draws_in e ≡ 0
  none_in v (number z) h = refl
  none_in v (variable n) h = refl
  none_in v (draw d) h = absurd (none_below d h)
  none_in v (minus e) h = none_in v e h
  none_in v (trees.sum es) h = none_among v es h
  none_in v (product es) h = none_among v es (second_of (is_linear_product es) (expressions_fit v 0 es) h)

  none_among : (v : ℕ) (es : Expressions) → IsTrue (expressions_fit v 0 es) → draws_among es ≡ 0
  none_among v no_part h = refl
  none_among v (part e es) h = both_none _ _ (none_in v e (first_of (expression_fits v 0 e) (expressions_fit v 0 es) h)) (none_among v es (second_of (expression_fits v 0 e) (expressions_fit v 0 es) h))

mutual
  pub none_tested : (v : ℕ) (c : Condition) → IsTrue (condition_fits v 0 c) → draws_tested c ≡ 0
  none_tested v (truth b) h = refl
  none_tested v (compare r a b) h = both_none _ _ (none_in v a (first_of (expression_fits v 0 a) (expression_fits v 0 b) h)) (none_in v b (second_of (expression_fits v 0 a) (expression_fits v 0 b) h))
  none_tested v (negated c) h = none_tested v c h
  none_tested v (all_of cs) h = none_of_tests v cs h
  none_tested v (some_of cs) h = none_of_tests v cs h

  none_of_tests : (v : ℕ) (cs : Conditions) → IsTrue (conditions_fit v 0 cs) → draws_of_tests cs ≡ 0
  none_of_tests v no_test h = refl
  none_of_tests v (test c cs) h = both_none _ _ (none_tested v c (first_of (condition_fits v 0 c) (conditions_fit v 0 cs) h)) (none_of_tests v cs (second_of (condition_fits v 0 c) (conditions_fit v 0 cs) h))

-- ---- what has no draw fits an edge without draws

both_zero : (a b : ℕ) → a + b ≡ 0 → (a ≡ 0) × (b ≡ 0)
both_zero a b h = (omega (arith, h), omega (arith, h))

pub both_of : (a b : Bool) → IsTrue a → IsTrue b → IsTrue (a && b)
both_of true b h k = k
both_of false b h k = absurd cc

mutual
  pub undrawn_fits : (v d : ℕ) (e : Expression) → IsTrue (expression_fits v d e) → draws_in e ≡ 0 → IsTrue (expression_fits v 0 e)
  undrawn_fits v d (number z) h n = h
  undrawn_fits v d (variable k) h n = h
  undrawn_fits v d (draw k) h n = cc
  undrawn_fits v d (minus e) h n = undrawn_fits v d e h n
  undrawn_fits v d (trees.sum es) h n = all_undrawn_fit v d es h n
  undrawn_fits v d (product es) h n = both_of (is_linear_product es) (expressions_fit v 0 es) (first_of (is_linear_product es) (expressions_fit v d es) h) (all_undrawn_fit v d es (second_of (is_linear_product es) (expressions_fit v d es) h) n)

  all_undrawn_fit : (v d : ℕ) (es : Expressions) → IsTrue (expressions_fit v d es) → draws_among es ≡ 0 → IsTrue (expressions_fit v 0 es)
  all_undrawn_fit v d no_part h n = h
  all_undrawn_fit v d (part e es) h n =
      let w = both_zero (draws_in e) (draws_among es) n in
      both_of (expression_fits v 0 e) (expressions_fit v 0 es) (undrawn_fits v d e (first_of (expression_fits v d e) (expressions_fit v d es) h) w.0) (all_undrawn_fit v d es (second_of (expression_fits v d e) (expressions_fit v d es) h) w.1)

mutual
  pub undrawn_test_fits : (v d : ℕ) (c : Condition) → IsTrue (condition_fits v d c) → draws_tested c ≡ 0 → IsTrue (condition_fits v 0 c)
  undrawn_test_fits v d (truth b) h n = h
  undrawn_test_fits v d (compare r a b) h n =
      let w = both_zero (draws_in a) (draws_in b) n in
      both_of (expression_fits v 0 a) (expression_fits v 0 b) (undrawn_fits v d a (first_of (expression_fits v d a) (expression_fits v d b) h) w.0) (undrawn_fits v d b (second_of (expression_fits v d a) (expression_fits v d b) h) w.1)
  undrawn_test_fits v d (negated c) h n = undrawn_test_fits v d c h n
  undrawn_test_fits v d (all_of cs) h n = all_undrawn_tests_fit v d cs h n
  undrawn_test_fits v d (some_of cs) h n = all_undrawn_tests_fit v d cs h n

  all_undrawn_tests_fit : (v d : ℕ) (cs : Conditions) → IsTrue (conditions_fit v d cs) → draws_of_tests cs ≡ 0 → IsTrue (conditions_fit v 0 cs)
  all_undrawn_tests_fit v d no_test h n = h
  all_undrawn_tests_fit v d (test c cs) h n =
      let w = both_zero (draws_tested c) (draws_of_tests cs) n in
      both_of (condition_fits v 0 c) (conditions_fit v 0 cs) (undrawn_test_fits v d c (first_of (condition_fits v d c) (conditions_fit v d cs) h) w.0) (all_undrawn_tests_fit v d cs (second_of (condition_fits v d c) (conditions_fit v d cs) h) w.1)
