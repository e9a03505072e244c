-- No symbol of a sum ends a text.
use Rattle.std.proofs.Common.{◌≡◌, ℕ, suc, Bool, true, false, List, [], ◌∷◌, refl, ◌∙◌}
use Rattle.tv_program.specs.Trees.{Expression}
use Rattle.tv_language.specs.declared.token.TokenKind.TheVariants as kinds
use Rattle.tv_language.specs.Symbols.{Symbol, fixed}
use Rattle.tv_language.specs.Sums.{IsFactor, constant, variable, draw, bracketed, negative, AreFactors, no_factor, times, IsProduct, factors, AreProducts, no_product, plus, less, IsSum, products}

-- one more, where it is so
abbrev pub counted : Bool → ℕ → ℕ
counted true n = suc n
counted false n = n

-- the end of a text, or what stands in none
abbrev pub closing_of : Symbol → Bool
closing_of (fixed kinds.End) = true
closing_of (fixed kinds.Unread) = true
closing_of s = false

-- how many of the symbols are such
abbrev pub closing : List Symbol → ℕ
closing [] = 0
closing (s ∷ ss) = counted (closing_of s) (closing ss)

mutual
  factor_inner : {n : ℕ} {e : Expression} {ts rest : List Symbol} → IsFactor n e ts rest → closing ts ≡ closing rest
  factor_inner constant = refl
  factor_inner variable = refl
  factor_inner draw = refl
  factor_inner (bracketed d) = sum_inner d
  factor_inner (negative d) = factor_inner d

  factors_inner : {n : ℕ} {es : List Expression} {ts rest : List Symbol} → AreFactors n es ts rest → closing ts ≡ closing rest
  factors_inner no_factor = refl
  factors_inner (times d ds) = factor_inner d ∙ factors_inner ds

  product_inner : {n : ℕ} {e : Expression} {ts rest : List Symbol} → IsProduct n e ts rest → closing ts ≡ closing rest
  product_inner (factors d ds l) = factor_inner d ∙ factors_inner ds

  products_inner : {n : ℕ} {es : List Expression} {ts rest : List Symbol} → AreProducts n es ts rest → closing ts ≡ closing rest
  products_inner no_product = refl
  products_inner (plus d ds) = product_inner d ∙ products_inner ds
  products_inner (less d ds) = product_inner d ∙ products_inner ds

  pub sum_inner : {n : ℕ} {e : Expression} {ts rest : List Symbol} → IsSum n e ts rest → closing ts ≡ closing rest
  sum_inner (products d ds) = product_inner d ∙ products_inner ds
