-- A condition that some text stands for is regular, and no text of it has fewer levels than its spelling.
use Rattle.std.proofs.Common.{ℕ, suc, ◌≤◌, Bool, true, false, List, [], ◌∷◌, max, refl, arith}
use Rattle.std.specs.Prelude.{◌||◌, not}
use Rattle.tv_program.specs.Trees.{Condition, truth, compare, negated, all_of, some_of}
use Rattle.tv_program.specs.Views.{tests_of}
use Rattle.tv_language.specs.Symbols.{Symbol}
use Rattle.tv_language.specs.Conditions.{joined, IsPlain, always, never, denied, bracketed, IsLiteral, plain, comparison, AreLiterals, no_literal, and, IsConjunction, literals, AreConjunctions, no_conjunction, or, IsCondition, conjunctions}
use Rattle.tv_spelling.specs.Conditions.{is_truth, is_negated, is_all, is_some}
use Rattle.tv_spelling.proofs.SumLevels.{bracket_levels, sum_levels, is_regular}
use Rattle.tv_spelling.proofs.SumLeast.{bracket_most, bracket_least, IsLeast, sum_least}
use Rattle.tv_spelling.proofs.ConditionLevels.{condition_levels, all_levels, some_levels, denied_levels, literal_levels, conjunction_levels, is_regular_test, are_regular_tests}
use Rattle.std.proofs.lemmas.Bool.{and_from}

literal_fewer : (c : Condition) (n : ℕ) → denied_levels c ≤ n → literal_levels c ≤ n
literal_fewer (truth b) n h = h
literal_fewer (compare r e f) n h = let k : suc (max (sum_levels e) (sum_levels f)) ≤ n = h in omega arith
literal_fewer (negated c) n h = h
literal_fewer (all_of cs) n h = h
literal_fewer (some_of cs) n h = h

pub conjunction_fewer : (a s : Bool) (k n : ℕ) → bracket_levels (a || s) k ≤ n → bracket_levels s k ≤ n
conjunction_fewer true true k n h = h
conjunction_fewer true false k n h = omega arith
conjunction_fewer false s k n h = h

one_conjunction : (c : Condition) (cs : List Condition) (n : ℕ) → IsLeast (is_regular_test c) (literal_levels c) n → IsLeast (are_regular_tests (tests_of cs)) (all_levels (tests_of cs)) n
    → IsLeast (is_regular_test (joined all_of (c ∷ cs))) (conjunction_levels (joined all_of (c ∷ cs))) n
one_conjunction c [] n h k = (h.0, conjunction_fewer (is_all c) (is_some c) (condition_levels c) n h.1)
one_conjunction c (d ∷ cs) n h k =
    (and_from (is_regular_test c) (are_regular_tests (tests_of (d ∷ cs))) h.0 k.0, let a : literal_levels c ≤ n = h.1 in let b : all_levels (tests_of (d ∷ cs)) ≤ n = k.1 in omega arith)

one_condition : (c : Condition) (cs : List Condition) (n : ℕ) → IsLeast (is_regular_test c) (conjunction_levels c) n → IsLeast (are_regular_tests (tests_of cs)) (some_levels (tests_of cs)) n
    → IsLeast (is_regular_test (joined some_of (c ∷ cs))) (condition_levels (joined some_of (c ∷ cs))) n
one_condition c [] n h k = (h.0, bracket_least (is_some c) (condition_levels c) n h.1)
one_condition c (d ∷ cs) n h k =
    (and_from (is_regular_test c) (are_regular_tests (tests_of (d ∷ cs))) h.0 k.0, let a : conjunction_levels c ≤ n = h.1 in let b : some_levels (tests_of (d ∷ cs)) ≤ n = k.1 in omega arith)

mutual
  pub plain_least : (n : ℕ) (c : Condition) (ts rest : List Symbol) → IsPlain n c ts rest → IsLeast (is_regular_test c) (denied_levels c) n
  plain_least n c ts rest always = (refl, omega arith)
  plain_least n c ts rest never = (refl, omega arith)
  plain_least n c ts rest (denied {n = m} {c = inner} d) = let s = plain_least m inner _ _ d in (s.0, let l : denied_levels inner ≤ m = s.1 in omega arith)
  plain_least n c ts rest (bracketed {n = m} d) = let s = condition_least m c _ _ d in (s.0, bracket_most (not (is_truth c || is_negated c)) (condition_levels c) m s.1)

  pub literal_least : (n : ℕ) (c : Condition) (ts rest : List Symbol) → IsLiteral n c ts rest → IsLeast (is_regular_test c) (literal_levels c) n
  literal_least n c ts rest (plain d) = let s = plain_least n c _ _ d in (s.0, literal_fewer c n s.1)
  literal_least n c ts rest (comparison {a = e} {b = f} d is b) =
      let h = sum_least n e _ _ d in let k = sum_least n f _ _ b in
      (and_from (is_regular e) (is_regular f) h.0 k.0, let x : sum_levels e ≤ n = h.1 in let y : sum_levels f ≤ n = k.1 in omega arith)

  pub literals_least : (n : ℕ) (cs : List Condition) (ts rest : List Symbol) → AreLiterals n cs ts rest → IsLeast (are_regular_tests (tests_of cs)) (all_levels (tests_of cs)) n
  literals_least n cs ts rest no_literal = (refl, omega arith)
  literals_least n cs ts rest (and {c = c} {cs = others} d ds) =
      let h = literal_least n c _ _ d in let k = literals_least n others _ _ ds in
      (and_from (is_regular_test c) (are_regular_tests (tests_of others)) h.0 k.0, let a : literal_levels c ≤ n = h.1 in let b : all_levels (tests_of others) ≤ n = k.1 in omega arith)

  pub conjunction_least : (n : ℕ) (c : Condition) (ts rest : List Symbol) → IsConjunction n c ts rest → IsLeast (is_regular_test c) (conjunction_levels c) n
  conjunction_least n c ts rest (literals {c = first} {cs = others} d ds) = one_conjunction first others n (literal_least n first _ _ d) (literals_least n others _ _ ds)

  pub conjunctions_least : (n : ℕ) (cs : List Condition) (ts rest : List Symbol) → AreConjunctions n cs ts rest → IsLeast (are_regular_tests (tests_of cs)) (some_levels (tests_of cs)) n
  conjunctions_least n cs ts rest no_conjunction = (refl, omega arith)
  conjunctions_least n cs ts rest (or {c = c} {cs = others} d ds) =
      let h = conjunction_least n c _ _ d in let k = conjunctions_least n others _ _ ds in
      (and_from (is_regular_test c) (are_regular_tests (tests_of others)) h.0 k.0, let a : conjunction_levels c ≤ n = h.1 in let b : some_levels (tests_of others) ≤ n = k.1 in omega arith)

  pub condition_least : (n : ℕ) (c : Condition) (ts rest : List Symbol) → IsCondition n c ts rest → IsLeast (is_regular_test c) (condition_levels c) n
  condition_least n c ts rest (conjunctions {c = first} {cs = others} d ds) = one_condition first others n (conjunction_least n first _ _ d) (conjunctions_least n others _ _ ds)
