-- An expression that some text stands for is regular, and no text of it has fewer levels than its spelling.
use Rattle.std.proofs.Common.{◌≡◌, ℕ, suc, ◌≤◌, Bool, true, false, List, [], ◌∷◌, refl, arith}
use Rattle.std.specs.Prelude.{◌||◌, ◌&&◌, IsTrue}
use Rattle.tv_program.specs.Trees.{Expression, minus, sum, product, Expressions, part}
use Rattle.tv_program.specs.Views.{parts_of}
use Rattle.tv_program.specs.Limits.{is_linear_product}
use Rattle.tv_language.specs.Symbols.{Symbol}
use Rattle.tv_language.specs.Sums.{gathered, IsFactor, constant, bracketed, negative, AreFactors, no_factor, times, IsProduct, factors, AreProducts, no_product, plus, less, IsSum, products}
use Rattle.tv_language.specs.Sums as grammar
use Rattle.tv_spelling.specs.Sums.{is_sum, is_product}
use Rattle.tv_spelling.proofs.SumLevels.{bracket_levels, sum_levels, further_levels, factors_levels, part_levels, factor_levels, is_regular, are_regular}
use Rattle.std.proofs.lemmas.Bool.{and_from}

pub bracket_most : (b : Bool) (k m : ℕ) → k ≤ m → bracket_levels b k ≤ suc m
bracket_most true k m h = omega arith
bracket_most false k m h = omega arith

pub bracket_least : (b : Bool) (k n : ℕ) → bracket_levels b k ≤ n → k ≤ n
bracket_least true k n h = omega arith
bracket_least false k n h = h

bracket_fewer : (s p : Bool) (k n : ℕ) → bracket_levels (s || p) k ≤ n → bracket_levels s k ≤ n
bracket_fewer true p k n h = h
bracket_fewer false true k n h = omega arith
bracket_fewer false false k n h = h

part_fewer : (e : Expression) (n : ℕ) → factor_levels e ≤ n → part_levels e ≤ n
part_fewer e n h = bracket_fewer (is_sum e) (is_product e) (sum_levels e) n h

further_fewer : (e : Expression) (es : Expressions) (n : ℕ) → part_levels e ≤ n → further_levels es ≤ n → further_levels (part e es) ≤ n
further_fewer (minus e) es n h k = let f : part_levels e ≤ n = part_fewer e n (omega arith) in omega arith
further_fewer e es n h k = omega arith

-- regular, and of at most n levels
abbrev pub IsLeast : Bool → ℕ → ℕ → Type 0
IsLeast regular levels n = (regular ≡ true) × (levels ≤ n)

one_product : (e : Expression) (es : List Expression) (n : ℕ) → IsLeast (is_regular e) (factor_levels e) n → IsLeast (are_regular (parts_of es)) (factors_levels (parts_of es)) n → IsTrue (is_linear_product (parts_of (e ∷ es)))
    → IsLeast (is_regular (gathered product (e ∷ es))) (part_levels (gathered product (e ∷ es))) n
one_product e [] n h k l = (h.0, part_fewer e n h.1)
one_product e (f ∷ es) n h k l = (
  and_from (is_linear_product (parts_of (e ∷ f ∷ es))) (is_regular e && are_regular (parts_of (f ∷ es))) l (and_from (is_regular e) (are_regular (parts_of (f ∷ es))) h.0 k.0),
  let a : factor_levels e ≤ n = h.1 in let b : factors_levels (parts_of (f ∷ es)) ≤ n = k.1 in omega arith,
)

one_sum : (e : Expression) (es : List Expression) (n : ℕ) → IsLeast (is_regular e) (part_levels e) n → IsLeast (are_regular (parts_of es)) (further_levels (parts_of es)) n
    → IsLeast (is_regular (gathered sum (e ∷ es))) (sum_levels (gathered sum (e ∷ es))) n
one_sum e [] n h k = (h.0, bracket_least (is_sum e) (sum_levels e) n h.1)
one_sum e (f ∷ es) n h k = (
  and_from (is_regular e) (are_regular (parts_of (f ∷ es))) h.0 k.0,
  let a : part_levels e ≤ n = h.1 in let b : further_levels (parts_of (f ∷ es)) ≤ n = k.1 in omega arith,
)

mutual
  pub factor_least : (n : ℕ) (e : Expression) (ts rest : List Symbol) → IsFactor n e ts rest → IsLeast (is_regular e) (factor_levels e) n
  factor_least n e ts rest constant = (refl, omega arith)
  factor_least n e ts rest grammar.variable = (refl, omega arith)
  factor_least n e ts rest grammar.draw = (refl, omega arith)
  factor_least n e ts rest (bracketed {n = m} d) = let s = sum_least m e _ _ d in (s.0, bracket_most (is_sum e || is_product e) (sum_levels e) m s.1)
  factor_least n e ts rest (negative {n = m} {e = inner} d) = let s = factor_least m inner _ _ d in (s.0, let l : factor_levels inner ≤ m = s.1 in omega arith)

  pub factors_least : (n : ℕ) (es : List Expression) (ts rest : List Symbol) → AreFactors n es ts rest → IsLeast (are_regular (parts_of es)) (factors_levels (parts_of es)) n
  factors_least n es ts rest no_factor = (refl, omega arith)
  factors_least n es ts rest (times {e = e} {es = others} d ds) =
      let h = factor_least n e _ _ d in let k = factors_least n others _ _ ds in
      (and_from (is_regular e) (are_regular (parts_of others)) h.0 k.0, let a : factor_levels e ≤ n = h.1 in let b : factors_levels (parts_of others) ≤ n = k.1 in omega arith)

  pub product_least : (n : ℕ) (e : Expression) (ts rest : List Symbol) → IsProduct n e ts rest → IsLeast (is_regular e) (part_levels e) n
  product_least n e ts rest (factors {e = first} {es = others} d ds l) = one_product first others n (factor_least n first _ _ d) (factors_least n others _ _ ds) l

  pub products_least : (n : ℕ) (es : List Expression) (ts rest : List Symbol) → AreProducts n es ts rest → IsLeast (are_regular (parts_of es)) (further_levels (parts_of es)) n
  products_least n es ts rest no_product = (refl, omega arith)
  products_least n es ts rest (plus {e = e} {es = others} d ds) =
      let h = product_least n e _ _ d in let k = products_least n others _ _ ds in
      (and_from (is_regular e) (are_regular (parts_of others)) h.0 k.0, further_fewer e (parts_of others) n h.1 k.1)
  products_least n es ts rest (less {e = e} {es = others} d ds) =
      let h = product_least n e _ _ d in let k = products_least n others _ _ ds in
      (and_from (is_regular e) (are_regular (parts_of others)) h.0 k.0, let a : part_levels e ≤ n = h.1 in let b : further_levels (parts_of others) ≤ n = k.1 in omega arith)

  pub sum_least : (n : ℕ) (e : Expression) (ts rest : List Symbol) → IsSum n e ts rest → IsLeast (is_regular e) (sum_levels e) n
  sum_least n e ts rest (products {e = first} {es = others} d ds) = one_sum first others n (product_least n first _ _ d) (products_least n others _ _ ds)
