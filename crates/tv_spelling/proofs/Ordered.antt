-- Draws are numbered in the order of the text.
use Rattle.std.proofs.Common.{◌≡◌, ℕ, suc, Bool, true, false, List, [], ◌∷◌, Option, None, Some, refl, arith}
use Rattle.std.proofs.lemmas.Bool.Decides.{nat_tests}
use Rattle.std.specs.Prelude.{IsTrue, nat_lt}
use Rattle.tv_language.specs.declared.token.TokenKind.{TokenKind}
use Rattle.tv_language.specs.declared.token.TokenKind.TheVariants.{From, Nondet}
use Rattle.tv_language.specs.declared.token.TokenKind.TheVariants as kinds
use Rattle.tv_program.specs.declared.tree.Relation.{Relation}
use Rattle.tv_program.specs.Words.{number_of}
use Rattle.tv_program.specs.Trees.{Expression, number, variable, draw, minus, sum, product, Expressions, no_part, part, Condition, truth, compare, negated, all_of, some_of, Conditions, no_test, test}
use Rattle.tv_program.specs.Views.{parts_of, tests_of}
use Rattle.tv_program.specs.Limits.{is_linear_product, expression_fits, expressions_fit, condition_fits, conditions_fit}
use Rattle.tv_language.specs.Symbols as symbols
use Rattle.tv_language.specs.Symbols.{Symbol, fixed}
use Rattle.tv_language.specs.Sums as sums
use Rattle.tv_language.specs.Sums.{gathered, IsFactor, AreFactors, IsProduct, AreProducts, IsSum}
use Rattle.tv_language.specs.Conditions as conditions
use Rattle.tv_language.specs.Conditions.{joined, IsPlain, IsLiteral, AreLiterals, IsConjunction, AreConjunctions, IsCondition}
use Rattle.tv_spelling.specs.ReadAgain.{draws_after, draws_after_all, IsOrdered, AreOrdered, draws_after_test, draws_after_tests, IsOrderedTest, AreOrderedTests}
use Rattle.tv_spelling.proofs.SumPieces.{both_hold}

-- ---- without draws

no_draw : (d draws : ℕ) → IsTrue (nat_lt d 0) → d ≡ draws
no_draw d draws h = grind (arith, nat_tests)

mutual
  pub ordered_without_draws : (n : ℕ) (e : Expression) (draws : ℕ) → IsTrue (expression_fits n 0 e) → IsOrdered e draws
  ordered_without_draws n (number z) draws h = tt
  ordered_without_draws n (variable v) draws h = tt
  ordered_without_draws n (draw d) draws h = no_draw d draws h
  ordered_without_draws n (minus e) draws h = ordered_without_draws n e draws h
  ordered_without_draws n (sum es) draws h = all_ordered_without_draws n es draws h
  ordered_without_draws n (product es) draws h = all_ordered_without_draws n es draws (both_hold (is_linear_product es) (expressions_fit n 0 es) h).1

  all_ordered_without_draws : (n : ℕ) (es : Expressions) (draws : ℕ) → IsTrue (expressions_fit n 0 es) → AreOrdered es draws
  all_ordered_without_draws n no_part draws h = tt
  all_ordered_without_draws n (part e es) draws h =
      let t = both_hold (expression_fits n 0 e) (expressions_fit n 0 es) h in
      (ordered_without_draws n e draws t.0, all_ordered_without_draws n es (draws_after e draws) t.1)

mutual
  pub tests_without_draws : (n : ℕ) (c : Condition) (draws : ℕ) → IsTrue (condition_fits n 0 c) → IsOrderedTest c draws
  tests_without_draws n (truth b) draws h = tt
  tests_without_draws n (compare r e f) draws h =
      let t = both_hold (expression_fits n 0 e) (expression_fits n 0 f) h in
      (ordered_without_draws n e draws t.0, ordered_without_draws n f (draws_after e draws) t.1)
  tests_without_draws n (negated c) draws h = tests_without_draws n c draws h
  tests_without_draws n (all_of cs) draws h = all_tests_without_draws n cs draws h
  tests_without_draws n (some_of cs) draws h = all_tests_without_draws n cs draws h

  all_tests_without_draws : (n : ℕ) (cs : Conditions) (draws : ℕ) → IsTrue (conditions_fit n 0 cs) → AreOrderedTests cs draws
  all_tests_without_draws n no_test draws h = tt
  all_tests_without_draws n (test c cs) draws h =
      let t = both_hold (condition_fits n 0 c) (conditions_fit n 0 cs) h in
      (tests_without_draws n c draws t.0, all_tests_without_draws n cs (draws_after_test c draws) t.1)

-- ---- as the symbols of a text number them

-- the draws among the symbols are numbered from here on, and anew from each FROM
abbrev pub AreNumbered : ℕ → List Symbol → Type 0
AreNumbered draws [] = Unit {0}
AreNumbered draws (symbols.drawn d ∷ ts) = (d ≡ draws) × AreNumbered (suc draws) ts
AreNumbered draws (fixed From ∷ ts) = AreNumbered 0 ts
AreNumbered draws (t ∷ ts) = AreNumbered draws ts

labelled : (draws : ℕ) (o : Option ℕ) (ss : List Symbol) → AreNumbered draws ss → AreNumbered draws (symbols.numbered symbols.label o ∷ ss)
labelled draws None ss h = h
labelled draws (Some n) ss h = h

named : (draws : ℕ) (o : Option ℕ) (ss : List Symbol) → AreNumbered draws ss → AreNumbered draws (symbols.numbered symbols.name o ∷ ss)
named draws None ss h = h
named draws (Some n) ss h = h

head_numbered : (v : symbols.Vocabulary) (behind_colon : Bool) (draws : ℕ) (kind : TokenKind) (w : List ℕ) (ss : List Symbol) → AreNumbered (symbols.draws_behind kind draws) ss → AreNumbered draws (symbols.symbol_by v behind_colon draws kind w ∷ ss)
head_numbered v true draws kinds.Name w ss h = labelled draws (number_of w v.labels) ss h
head_numbered v true draws kinds.Number w ss h = labelled draws (number_of w v.labels) ss h
head_numbered v false draws kinds.Name w ss h = named draws (number_of w v.variables) ss h
head_numbered v true draws kinds.Nondet w ss h = (refl, h)
head_numbered v false draws kinds.Nondet w ss h = (refl, h)
head_numbered v true draws kind w ss h = h
head_numbered v false draws kind w ss h = h

-- the symbols of a text have their draws numbered so
pub symbols_numbered : (v : symbols.Vocabulary) (behind_colon : Bool) (draws : ℕ) (xs : List symbols.Lexeme) → AreNumbered draws (symbols.symbols_from v behind_colon draws xs)
symbols_numbered v b draws [] = tt
symbols_numbered v b draws (x ∷ xs) =
    head_numbered v b draws x.kind x.word (symbols.symbols_from v (symbols.is_colon x.kind) (symbols.draws_behind x.kind draws) xs) (symbols_numbered v (symbols.is_colon x.kind) (symbols.draws_behind x.kind draws) xs)

behind_relation : (kind : TokenKind) (r : Relation) (draws : ℕ) (ss : List Symbol) → conditions.relation_of kind ≡ Some r → AreNumbered draws (fixed kind ∷ ss) → AreNumbered draws ss
behind_relation From r draws ss is h = absurd cc
behind_relation kind r draws ss is h = h

-- the draws of a part of the text are ordered, and those after it go on
abbrev pub GoesOn : Type 0 → ℕ → List Symbol → Type 0
GoesOn ordered draws rest = ordered × AreNumbered draws rest

one_product : (e : Expression) (es : List Expression) (draws : ℕ) (rest : List Symbol) → IsOrdered e draws → GoesOn (AreOrdered (parts_of es) (draws_after e draws)) (draws_after_all (parts_of es) (draws_after e draws)) rest
    → GoesOn (IsOrdered (gathered product (e ∷ es)) draws) (draws_after (gathered product (e ∷ es)) draws) rest
one_product e [] draws rest o h = (o, h.1)
one_product e (f ∷ es) draws rest o h = ((o, h.0), h.1)

one_sum : (e : Expression) (es : List Expression) (draws : ℕ) (rest : List Symbol) → IsOrdered e draws → GoesOn (AreOrdered (parts_of es) (draws_after e draws)) (draws_after_all (parts_of es) (draws_after e draws)) rest
    → GoesOn (IsOrdered (gathered sum (e ∷ es)) draws) (draws_after (gathered sum (e ∷ es)) draws) rest
one_sum e [] draws rest o h = (o, h.1)
one_sum e (f ∷ es) draws rest o h = ((o, h.0), h.1)

one_all : (c : Condition) (cs : List Condition) (draws : ℕ) (rest : List Symbol) → IsOrderedTest c draws → GoesOn (AreOrderedTests (tests_of cs) (draws_after_test c draws)) (draws_after_tests (tests_of cs) (draws_after_test c draws)) rest
    → GoesOn (IsOrderedTest (joined all_of (c ∷ cs)) draws) (draws_after_test (joined all_of (c ∷ cs)) draws) rest
one_all c [] draws rest o h = (o, h.1)
one_all c (d ∷ cs) draws rest o h = ((o, h.0), h.1)

one_some : (c : Condition) (cs : List Condition) (draws : ℕ) (rest : List Symbol) → IsOrderedTest c draws → GoesOn (AreOrderedTests (tests_of cs) (draws_after_test c draws)) (draws_after_tests (tests_of cs) (draws_after_test c draws)) rest
    → GoesOn (IsOrderedTest (joined some_of (c ∷ cs)) draws) (draws_after_test (joined some_of (c ∷ cs)) draws) rest
one_some c [] draws rest o h = (o, h.1)
one_some c (d ∷ cs) draws rest o h = ((o, h.0), h.1)

mutual
  pub factor_ordered : (n : ℕ) (e : Expression) (ts rest : List Symbol) (draws : ℕ) → IsFactor n e ts rest → AreNumbered draws ts → GoesOn (IsOrdered e draws) (draws_after e draws) rest
  factor_ordered n e ts rest draws sums.constant h = (tt, h)
  factor_ordered n e ts rest draws sums.variable h = (tt, h)
  factor_ordered n e ts rest draws sums.draw h = (h.0, h.1)
  factor_ordered n e ts rest draws (sums.bracketed {n = m} d) h = sum_ordered m e _ _ draws d h
  factor_ordered n e ts rest draws (sums.negative {n = m} {e = inner} d) h = factor_ordered m inner _ _ draws d h

  pub factors_ordered : (n : ℕ) (es : List Expression) (ts rest : List Symbol) (draws : ℕ) → AreFactors n es ts rest → AreNumbered draws ts → GoesOn (AreOrdered (parts_of es) draws) (draws_after_all (parts_of es) draws) rest
  factors_ordered n es ts rest draws sums.no_factor h = (tt, h)
  factors_ordered n es ts rest draws (sums.times {e = e} {es = others} d ds) h =
      let first = factor_ordered n e _ _ draws d h in
      let behind = factors_ordered n others _ _ (draws_after e draws) ds first.1 in
      ((first.0, behind.0), behind.1)

  pub product_ordered : (n : ℕ) (e : Expression) (ts rest : List Symbol) (draws : ℕ) → IsProduct n e ts rest → AreNumbered draws ts → GoesOn (IsOrdered e draws) (draws_after e draws) rest
  product_ordered n e ts rest draws (sums.factors {e = first} {es = others} d ds l) h =
      let o = factor_ordered n first _ _ draws d h in
      one_product first others draws rest o.0 (factors_ordered n others _ _ (draws_after first draws) ds o.1)

  pub products_ordered : (n : ℕ) (es : List Expression) (ts rest : List Symbol) (draws : ℕ) → AreProducts n es ts rest → AreNumbered draws ts → GoesOn (AreOrdered (parts_of es) draws) (draws_after_all (parts_of es) draws) rest
  products_ordered n es ts rest draws sums.no_product h = (tt, h)
  products_ordered n es ts rest draws (sums.plus {e = e} {es = others} d ds) h =
      let first = product_ordered n e _ _ draws d h in
      let behind = products_ordered n others _ _ (draws_after e draws) ds first.1 in
      ((first.0, behind.0), behind.1)
  products_ordered n es ts rest draws (sums.less {e = e} {es = others} d ds) h =
      let first = product_ordered n e _ _ draws d h in
      let behind = products_ordered n others _ _ (draws_after e draws) ds first.1 in
      ((first.0, behind.0), behind.1)

  pub sum_ordered : (n : ℕ) (e : Expression) (ts rest : List Symbol) (draws : ℕ) → IsSum n e ts rest → AreNumbered draws ts → GoesOn (IsOrdered e draws) (draws_after e draws) rest
  sum_ordered n e ts rest draws (sums.products {e = first} {es = others} d ds) h =
      let o = product_ordered n first _ _ draws d h in
      one_sum first others draws rest o.0 (products_ordered n others _ _ (draws_after first draws) ds o.1)

mutual
  pub plain_ordered : (n : ℕ) (c : Condition) (ts rest : List Symbol) (draws : ℕ) → IsPlain n c ts rest → AreNumbered draws ts → GoesOn (IsOrderedTest c draws) (draws_after_test c draws) rest
  plain_ordered n c ts rest draws conditions.always h = (tt, h)
  plain_ordered n c ts rest draws conditions.never h = (tt, h)
  plain_ordered n c ts rest draws (conditions.denied {n = m} {c = inner} d) h = plain_ordered m inner _ _ draws d h
  plain_ordered n c ts rest draws (conditions.bracketed {n = m} d) h = condition_ordered m c _ _ draws d h

  pub literal_ordered : (n : ℕ) (c : Condition) (ts rest : List Symbol) (draws : ℕ) → IsLiteral n c ts rest → AreNumbered draws ts → GoesOn (IsOrderedTest c draws) (draws_after_test c draws) rest
  literal_ordered n c ts rest draws (conditions.plain d) h = plain_ordered n c _ _ draws d h
  literal_ordered n c ts rest draws (conditions.comparison {a = e} {b = f} {kind = kind} {relation = r} {us = us} d is b) h =
      let first = sum_ordered n e _ _ draws d h in
      let behind = sum_ordered n f _ _ (draws_after e draws) b (behind_relation kind r (draws_after e draws) us is first.1) in
      ((first.0, behind.0), behind.1)

  pub literals_ordered : (n : ℕ) (cs : List Condition) (ts rest : List Symbol) (draws : ℕ) → AreLiterals n cs ts rest → AreNumbered draws ts → GoesOn (AreOrderedTests (tests_of cs) draws) (draws_after_tests (tests_of cs) draws) rest
  literals_ordered n cs ts rest draws conditions.no_literal h = (tt, h)
  literals_ordered n cs ts rest draws (conditions.and {c = c} {cs = others} d ds) h =
      let first = literal_ordered n c _ _ draws d h in
      let behind = literals_ordered n others _ _ (draws_after_test c draws) ds first.1 in
      ((first.0, behind.0), behind.1)

  pub conjunction_ordered : (n : ℕ) (c : Condition) (ts rest : List Symbol) (draws : ℕ) → IsConjunction n c ts rest → AreNumbered draws ts → GoesOn (IsOrderedTest c draws) (draws_after_test c draws) rest
  conjunction_ordered n c ts rest draws (conditions.literals {c = first} {cs = others} d ds) h =
      let o = literal_ordered n first _ _ draws d h in
      one_all first others draws rest o.0 (literals_ordered n others _ _ (draws_after_test first draws) ds o.1)

  pub conjunctions_ordered : (n : ℕ) (cs : List Condition) (ts rest : List Symbol) (draws : ℕ) → AreConjunctions n cs ts rest → AreNumbered draws ts → GoesOn (AreOrderedTests (tests_of cs) draws) (draws_after_tests (tests_of cs) draws) rest
  conjunctions_ordered n cs ts rest draws conditions.no_conjunction h = (tt, h)
  conjunctions_ordered n cs ts rest draws (conditions.or {c = c} {cs = others} d ds) h =
      let first = conjunction_ordered n c _ _ draws d h in
      let behind = conjunctions_ordered n others _ _ (draws_after_test c draws) ds first.1 in
      ((first.0, behind.0), behind.1)

  pub condition_ordered : (n : ℕ) (c : Condition) (ts rest : List Symbol) (draws : ℕ) → IsCondition n c ts rest → AreNumbered draws ts → GoesOn (IsOrderedTest c draws) (draws_after_test c draws) rest
  condition_ordered n c ts rest draws (conditions.conjunctions {c = first} {cs = others} d ds) h =
      let o = conjunction_ordered n first _ _ draws d h in
      one_some first others draws rest o.0 (conjunctions_ordered n others _ _ (draws_after_test first draws) ds o.1)
