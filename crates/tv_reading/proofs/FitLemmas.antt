-- The trees of texts whose symbols are within their bounds fit, and they are not deep.
use Rattle.std.proofs.Common.{◌≡◌, ℕ, ◌+◌, ◌*◌, ◌^◌, ◌≤◌, Bool, true, List, [], ◌∷◌, refl, arith}
use Rattle.std.specs.Prelude.{◌&&◌, nat_lt, max}
use Rattle.tv_program.specs.Trees as trees
use Rattle.tv_program.specs.Trees.{Expression, Condition, all_of, some_of}
use Rattle.tv_program.specs.Views.{parts_of, tests_of}
use Rattle.tv_program.specs.Limits.{is_linear_product, expression_fits, expressions_fit, expression_depth, expressions_depth, condition_fits, conditions_fit, condition_depth, conditions_depth}
use Rattle.tv_language.specs.Symbols.{Symbol, number, name, drawn}
use Rattle.tv_language.specs.Sums.{gathered, IsFactor, constant, variable, draw, bracketed, negative, AreFactors, no_factor, times, IsProduct, factors, AreProducts, no_product, plus, less, IsSum, products}
use Rattle.tv_language.specs.Conditions as conditions
use Rattle.tv_language.specs.Conditions.{joined, IsPlain, always, never, denied, IsLiteral, comparison, AreLiterals, no_literal, and, IsConjunction, literals, AreConjunctions, no_conjunction, or, IsCondition, conjunctions}
use Rattle.std.proofs.lemmas.Bool.{and_from, and_parts}

-- ---- depth

sum_deep : (es : List Expression) (b : ℕ) → expressions_depth (parts_of es) ≤ b → expression_depth (gathered trees.sum es) ≤ b + 1
sum_deep [] b h = omega arith
sum_deep (e ∷ []) b h = omega arith
sum_deep (e ∷ f ∷ es) b h = omega arith

product_deep : (es : List Expression) (b : ℕ) → expressions_depth (parts_of es) ≤ b → expression_depth (gathered trees.product es) ≤ b + 1
product_deep [] b h = omega arith
product_deep (e ∷ []) b h = omega arith
product_deep (e ∷ f ∷ es) b h = omega arith

both_below : (a b c : ℕ) → a ≤ c → b ≤ c → max a b ≤ c
both_below a b c h i = omega arith

mutual
  factor_deep : {n : ℕ} {e : Expression} {ts rest : List Symbol} → IsFactor n e ts rest → expression_depth e ≤ 3 * n + 1
  factor_deep (constant {n}) = omega arith
  factor_deep (variable {n}) = omega arith
  factor_deep (draw {n}) = omega arith
  factor_deep (bracketed {n} s) = let h = sum_shallow s in omega arith
  factor_deep (negative {n} f) = let h = factor_deep f in omega arith

  factors_deep : {n : ℕ} {es : List Expression} {ts rest : List Symbol} → AreFactors n es ts rest → expressions_depth (parts_of es) ≤ 3 * n + 1
  factors_deep (no_factor {n}) = omega arith
  factors_deep (times {n} f fs) = both_below _ _ (3 * n + 1) (factor_deep f) (factors_deep fs)

  product_shallow : {n : ℕ} {e : Expression} {ts rest : List Symbol} → IsProduct n e ts rest → expression_depth e ≤ 3 * n + 2
  product_shallow (factors {n} {e} {es} f fs l) = let h = product_deep (e ∷ es) (3 * n + 1) (both_below _ _ (3 * n + 1) (factor_deep f) (factors_deep fs)) in omega arith

  products_deep : {n : ℕ} {es : List Expression} {ts rest : List Symbol} → AreProducts n es ts rest → expressions_depth (parts_of es) ≤ 3 * n + 3
  products_deep (no_product {n}) = omega arith
  products_deep (plus {n} p ps) = let h = product_shallow p in both_below _ _ (3 * n + 3) (omega arith) (products_deep ps)
  products_deep (less {n} p ps) = let h = product_shallow p in both_below _ _ (3 * n + 3) (omega arith) (products_deep ps)

  pub sum_shallow : {n : ℕ} {e : Expression} {ts rest : List Symbol} → IsSum n e ts rest → expression_depth e ≤ 3 * n + 4
  sum_shallow (products {n} {e} {es} p ps) = let g = product_shallow p in let h = sum_deep (e ∷ es) (3 * n + 3) (both_below _ _ (3 * n + 3) (omega arith) (products_deep ps)) in omega arith

all_deep : (cs : List Condition) (b : ℕ) → conditions_depth (tests_of cs) ≤ b → condition_depth (joined all_of cs) ≤ b + 1
all_deep [] b h = omega arith
all_deep (c ∷ []) b h = omega arith
all_deep (c ∷ d ∷ cs) b h = omega arith

some_deep : (cs : List Condition) (b : ℕ) → conditions_depth (tests_of cs) ≤ b → condition_depth (joined some_of cs) ≤ b + 1
some_deep [] b h = omega arith
some_deep (c ∷ []) b h = omega arith
some_deep (c ∷ d ∷ cs) b h = omega arith

mutual
  plain_deep : {n : ℕ} {c : Condition} {ts rest : List Symbol} → IsPlain n c ts rest → condition_depth c ≤ 3 * n + 5
  plain_deep (always {n}) = omega arith
  plain_deep (never {n}) = omega arith
  plain_deep (denied {n} p) = let h = plain_deep p in omega arith
  plain_deep (conditions.bracketed {n} p) = let h = condition_shallow p in omega arith

  literal_deep : {n : ℕ} {c : Condition} {ts rest : List Symbol} → IsLiteral n c ts rest → condition_depth c ≤ 3 * n + 5
  literal_deep (conditions.plain p) = plain_deep p
  literal_deep (comparison {n} p is q) = let h = both_below _ _ (3 * n + 4) (sum_shallow p) (sum_shallow q) in omega arith

  literals_deep : {n : ℕ} {cs : List Condition} {ts rest : List Symbol} → AreLiterals n cs ts rest → conditions_depth (tests_of cs) ≤ 3 * n + 5
  literals_deep (no_literal {n}) = omega arith
  literals_deep (and {n} p ps) = both_below _ _ (3 * n + 5) (literal_deep p) (literals_deep ps)

  conjunction_deep : {n : ℕ} {c : Condition} {ts rest : List Symbol} → IsConjunction n c ts rest → condition_depth c ≤ 3 * n + 6
  conjunction_deep (literals {n} {c} {cs} p ps) = let h = all_deep (c ∷ cs) (3 * n + 5) (both_below _ _ (3 * n + 5) (literal_deep p) (literals_deep ps)) in omega arith

  conjunctions_deep : {n : ℕ} {cs : List Condition} {ts rest : List Symbol} → AreConjunctions n cs ts rest → conditions_depth (tests_of cs) ≤ 3 * n + 6
  conjunctions_deep (no_conjunction {n}) = omega arith
  conjunctions_deep (or {n} p ps) = both_below _ _ (3 * n + 6) (conjunction_deep p) (conjunctions_deep ps)

  pub condition_shallow : {n : ℕ} {c : Condition} {ts rest : List Symbol} → IsCondition n c ts rest → condition_depth c ≤ 3 * n + 7
  condition_shallow (conjunctions {n} {c} {cs} p ps) = let h = some_deep (c ∷ cs) (3 * n + 6) (both_below _ _ (3 * n + 6) (conjunction_deep p) (conjunctions_deep ps)) in omega arith

-- ---- bounds

-- a symbol within `variables` variables and `draws` draws
abbrev pub symbol_fits : ℕ → ℕ → Symbol → Bool
symbol_fits variables draws (number k) = nat_lt k (2 ^ 62)
symbol_fits variables draws (name v) = nat_lt v variables
symbol_fits variables draws (drawn d) = nat_lt d draws
symbol_fits variables draws s = true

abbrev pub all_fit : ℕ → ℕ → List Symbol → Bool
all_fit variables draws [] = true
all_fit variables draws (s ∷ ss) = symbol_fits variables draws s && all_fit variables draws ss

sum_fit : (v d : ℕ) (es : List Expression) → expressions_fit v d (parts_of es) ≡ true → expression_fits v d (gathered trees.sum es) ≡ true
sum_fit v d [] h = refl
sum_fit v d (e ∷ []) h = (and_parts _ _ h).0
sum_fit v d (e ∷ f ∷ es) h = h

product_fit : (v d : ℕ) (es : List Expression) → is_linear_product (parts_of es) ≡ true → expressions_fit v d (parts_of es) ≡ true → expression_fits v d (gathered trees.product es) ≡ true
product_fit v d [] l h = refl
product_fit v d (e ∷ []) l h = (and_parts _ _ h).0
product_fit v d (e ∷ f ∷ es) l h = and_from _ _ l h

module _ (v d : ℕ) where
  mutual
    factor_fits : {n : ℕ} {e : Expression} {ts rest : List Symbol} → IsFactor n e ts rest → all_fit v d ts ≡ true → (expression_fits v d e ≡ true) × (all_fit v d rest ≡ true)
    factor_fits constant h = and_parts _ _ h
    factor_fits variable h = and_parts _ _ h
    factor_fits draw h = and_parts _ _ h
    factor_fits (bracketed s) h = sum_fits s h
    factor_fits (negative f) h = factor_fits f h

    factors_fit : {n : ℕ} {es : List Expression} {ts rest : List Symbol} → AreFactors n es ts rest → all_fit v d ts ≡ true → (expressions_fit v d (parts_of es) ≡ true) × (all_fit v d rest ≡ true)
    factors_fit no_factor h = (refl, h)
    factors_fit (times f fs) h = let a = factor_fits f h in let b = factors_fit fs a.1 in (and_from _ _ a.0 b.0, b.1)

    product_fits : {n : ℕ} {e : Expression} {ts rest : List Symbol} → IsProduct n e ts rest → all_fit v d ts ≡ true → (expression_fits v d e ≡ true) × (all_fit v d rest ≡ true)
    product_fits (factors {e} {es} f fs l) h = let a = factor_fits f h in let b = factors_fit fs a.1 in (product_fit v d (e ∷ es) l (and_from _ _ a.0 b.0), b.1)

    products_fit : {n : ℕ} {es : List Expression} {ts rest : List Symbol} → AreProducts n es ts rest → all_fit v d ts ≡ true → (expressions_fit v d (parts_of es) ≡ true) × (all_fit v d rest ≡ true)
    products_fit no_product h = (refl, h)
    products_fit (plus p ps) h = let a = product_fits p h in let b = products_fit ps a.1 in (and_from _ _ a.0 b.0, b.1)
    products_fit (less p ps) h = let a = product_fits p h in let b = products_fit ps a.1 in (and_from _ _ a.0 b.0, b.1)

    pub sum_fits : {n : ℕ} {e : Expression} {ts rest : List Symbol} → IsSum n e ts rest → all_fit v d ts ≡ true → (expression_fits v d e ≡ true) × (all_fit v d rest ≡ true)
    sum_fits (products {e} {es} p ps) h = let a = product_fits p h in let b = products_fit ps a.1 in (sum_fit v d (e ∷ es) (and_from _ _ a.0 b.0), b.1)

all_fit_of : (v d : ℕ) (cs : List Condition) → conditions_fit v d (tests_of cs) ≡ true → condition_fits v d (joined all_of cs) ≡ true
all_fit_of v d [] h = refl
all_fit_of v d (c ∷ []) h = (and_parts _ _ h).0
all_fit_of v d (c ∷ e ∷ cs) h = h

some_fit_of : (v d : ℕ) (cs : List Condition) → conditions_fit v d (tests_of cs) ≡ true → condition_fits v d (joined some_of cs) ≡ true
some_fit_of v d [] h = refl
some_fit_of v d (c ∷ []) h = (and_parts _ _ h).0
some_fit_of v d (c ∷ e ∷ cs) h = h

module _ (v d : ℕ) where
  mutual
    plain_fits : {n : ℕ} {c : Condition} {ts rest : List Symbol} → IsPlain n c ts rest → all_fit v d ts ≡ true → (condition_fits v d c ≡ true) × (all_fit v d rest ≡ true)
    plain_fits always h = (refl, h)
    plain_fits never h = (refl, h)
    plain_fits (denied p) h = plain_fits p h
    plain_fits (conditions.bracketed p) h = condition_fit p h

    literal_fits : {n : ℕ} {c : Condition} {ts rest : List Symbol} → IsLiteral n c ts rest → all_fit v d ts ≡ true → (condition_fits v d c ≡ true) × (all_fit v d rest ≡ true)
    literal_fits (conditions.plain p) h = plain_fits p h
    literal_fits (comparison p is q) h = let a = sum_fits v d p h in let b = sum_fits v d q a.1 in (and_from _ _ a.0 b.0, b.1)

    literals_fit : {n : ℕ} {cs : List Condition} {ts rest : List Symbol} → AreLiterals n cs ts rest → all_fit v d ts ≡ true → (conditions_fit v d (tests_of cs) ≡ true) × (all_fit v d rest ≡ true)
    literals_fit no_literal h = (refl, h)
    literals_fit (and p ps) h = let a = literal_fits p h in let b = literals_fit ps a.1 in (and_from _ _ a.0 b.0, b.1)

    conjunction_fits : {n : ℕ} {c : Condition} {ts rest : List Symbol} → IsConjunction n c ts rest → all_fit v d ts ≡ true → (condition_fits v d c ≡ true) × (all_fit v d rest ≡ true)
    conjunction_fits (literals {c} {cs} p ps) h = let a = literal_fits p h in let b = literals_fit ps a.1 in (all_fit_of v d (c ∷ cs) (and_from _ _ a.0 b.0), b.1)

    conjunctions_fit : {n : ℕ} {cs : List Condition} {ts rest : List Symbol} → AreConjunctions n cs ts rest → all_fit v d ts ≡ true → (conditions_fit v d (tests_of cs) ≡ true) × (all_fit v d rest ≡ true)
    conjunctions_fit no_conjunction h = (refl, h)
    conjunctions_fit (or p ps) h = let a = conjunction_fits p h in let b = conjunctions_fit ps a.1 in (and_from _ _ a.0 b.0, b.1)

    pub condition_fit : {n : ℕ} {c : Condition} {ts rest : List Symbol} → IsCondition n c ts rest → all_fit v d ts ≡ true → (condition_fits v d c ≡ true) × (all_fit v d rest ≡ true)
    condition_fit (conjunctions {c} {cs} p ps) h = let a = conjunction_fits p h in let b = conjunctions_fit ps a.1 in (some_fit_of v d (c ∷ cs) (and_from _ _ a.0 b.0), b.1)
