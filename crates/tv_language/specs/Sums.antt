-- The grammar of sums: `IsSum n e ts rest` says that the symbols ts are a sum, with brackets and signs nested at most n deep, that stands
-- for the expression e, and then the rest.
--
-- sum = product { ("+" | "-") product }      product = factor { "*" factor }
-- factor = number | name | "nondet" "(" ")" | "(" sum ")" | "-" factor
use Rattle.std.specs.Prelude.{ℕ, suc, pos, List, [], ◌∷◌, IsTrue}
use Rattle.tv_language.specs.declared.token.TokenKind.TheVariants.{LeftRound, RightRound, Plus, Minus, Star}
use Rattle.tv_program.specs.Trees as trees
use Rattle.tv_program.specs.Trees.{Expression, Expressions, part}
use Rattle.tv_program.specs.Views.{parts_of}
use Rattle.tv_program.specs.Limits.{is_linear_product}
use Rattle.tv_language.specs.Symbols.{Symbol, number, name, drawn, fixed}

-- a list of one part is that part
abbrev pub gathered : (Expressions → Expression) → List Expression → Expression
gathered make [] = make (parts_of [])
gathered make (e ∷ []) = e
gathered make (e ∷ f ∷ es) = make (parts_of (e ∷ f ∷ es))

mutual
  pub data IsFactor : ℕ → Expression → List Symbol → List Symbol → Type 0 where
    constant : {n k : ℕ} {rest : List Symbol} → IsFactor n (trees.number (pos k)) (number k ∷ rest) rest
    variable : {n v : ℕ} {rest : List Symbol} → IsFactor n (trees.variable v) (name v ∷ rest) rest
    draw : {n d : ℕ} {rest : List Symbol} → IsFactor n (trees.draw d) (drawn d ∷ fixed LeftRound ∷ fixed RightRound ∷ rest) rest
    bracketed : {n : ℕ} {e : Expression} {ts rest : List Symbol} → IsSum n e ts (fixed RightRound ∷ rest) → IsFactor (suc n) e (fixed LeftRound ∷ ts) rest
    negative : {n : ℕ} {e : Expression} {ts rest : List Symbol} → IsFactor n e ts rest → IsFactor (suc n) (trees.minus e) (fixed Minus ∷ ts) rest

  -- { "*" factor }
  pub data AreFactors : ℕ → List Expression → List Symbol → List Symbol → Type 0 where
    no_factor : {n : ℕ} {rest : List Symbol} → AreFactors n [] rest rest
    times : {n : ℕ} {e : Expression} {es : List Expression} {ts us rest : List Symbol} → IsFactor n e ts us → AreFactors n es us rest → AreFactors n (e ∷ es) (fixed Star ∷ ts) rest

  -- one factor at most has a variable or a draw
  pub data IsProduct : ℕ → Expression → List Symbol → List Symbol → Type 0 where
    factors : {n : ℕ} {e : Expression} {es : List Expression} {ts us rest : List Symbol} → IsFactor n e ts us → AreFactors n es us rest → IsTrue (is_linear_product (parts_of (e ∷ es))) → IsProduct n (gathered trees.product (e ∷ es)) ts rest

  -- { ("+" | "-") product }, where a product that is taken off is Minus of it
  pub data AreProducts : ℕ → List Expression → List Symbol → List Symbol → Type 0 where
    no_product : {n : ℕ} {rest : List Symbol} → AreProducts n [] rest rest
    plus : {n : ℕ} {e : Expression} {es : List Expression} {ts us rest : List Symbol} → IsProduct n e ts us → AreProducts n es us rest → AreProducts n (e ∷ es) (fixed Plus ∷ ts) rest
    less : {n : ℕ} {e : Expression} {es : List Expression} {ts us rest : List Symbol} → IsProduct n e ts us → AreProducts n es us rest → AreProducts n (trees.minus e ∷ es) (fixed Minus ∷ ts) rest

  pub data IsSum : ℕ → Expression → List Symbol → List Symbol → Type 0 where
    products : {n : ℕ} {e : Expression} {es : List Expression} {ts us rest : List Symbol} → IsProduct n e ts us → AreProducts n es us rest → IsSum n (gathered trees.sum (e ∷ es)) ts rest
