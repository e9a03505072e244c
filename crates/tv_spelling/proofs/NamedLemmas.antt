-- The variables of a tree that fits are among those that it fits.
use Rattle.std.proofs.Common.{ℕ, refl}
use Rattle.std.specs.Prelude.{IsTrue}
use Rattle.tv_program.specs.Trees.{Expression, number, variable, draw, minus, sum, product, Expressions, no_part, part, Condition, truth, compare, negated, all_of, some_of, Conditions, no_test, test}
use Rattle.tv_program.specs.Limits.{is_linear_product, expression_fits, expressions_fit, condition_fits, conditions_fit}
use Rattle.tv_spelling.specs.Named.{are_named, all_are_named, test_is_named, tests_are_named}
use Rattle.tv_spelling.proofs.SumPieces.{both_hold}
use Rattle.tv_language.proofs.DrawLemmas.{both_of}

mutual
  pub fits_named : (v d : ℕ) (e : Expression) → IsTrue (expression_fits v d e) → IsTrue (are_named v e)
  fits_named v d (number z) h = refl
  fits_named v d (variable k) h = h
  fits_named v d (draw k) h = refl
  fits_named v d (minus e) h = fits_named v d e h
  fits_named v d (sum es) h = all_fit_named v d es h
  fits_named v d (product es) h = all_fit_named v d es (both_hold (is_linear_product es) (expressions_fit v d es) h).1

  all_fit_named : (v d : ℕ) (es : Expressions) → IsTrue (expressions_fit v d es) → IsTrue (all_are_named v es)
  all_fit_named v d no_part h = refl
  all_fit_named v d (part e es) h =
      let t = both_hold (expression_fits v d e) (expressions_fit v d es) h in
      both_of (are_named v e) (all_are_named v es) (fits_named v d e t.0) (all_fit_named v d es t.1)

mutual
  pub test_fits_named : (v d : ℕ) (c : Condition) → IsTrue (condition_fits v d c) → IsTrue (test_is_named v c)
  test_fits_named v d (truth b) h = refl
  test_fits_named v d (compare r e f) h =
      let t = both_hold (expression_fits v d e) (expression_fits v d f) h in
      both_of (are_named v e) (are_named v f) (fits_named v d e t.0) (fits_named v d f t.1)
  test_fits_named v d (negated c) h = test_fits_named v d c h
  test_fits_named v d (all_of cs) h = tests_fit_named v d cs h
  test_fits_named v d (some_of cs) h = tests_fit_named v d cs h

  tests_fit_named : (v d : ℕ) (cs : Conditions) → IsTrue (conditions_fit v d cs) → IsTrue (tests_are_named v cs)
  tests_fit_named v d no_test h = refl
  tests_fit_named v d (test c cs) h =
      let t = both_hold (condition_fits v d c) (conditions_fit v d cs) h in
      both_of (test_is_named v c) (tests_are_named v cs) (test_fits_named v d c t.0) (tests_fit_named v d cs t.1)
