-- The grammar of conditions, likewise.
--
-- condition = conjunction { "||" conjunction }      conjunction = literal { "&&" literal }
-- literal = plain | sum relation sum                plain = "!" plain | "true" | "false" | "(" condition ")"
use Rattle.std.specs.Prelude.{◌≡◌, ℕ, suc, true, false, List, [], ◌∷◌, Option, None, Some}
use Rattle.tv_language.specs.declared.token.TokenKind.{TokenKind}
use Rattle.tv_language.specs.declared.token.TokenKind.TheVariants.{True, False, LeftRound, RightRound, And, Or, Not, Less, LessEqual, Greater, GreaterEqual, Equal, NotEqual}
use Rattle.tv_program.specs.declared.tree.Relation.{Relation}
use Rattle.tv_program.specs.declared.tree.Relation.TheVariants as relations
use Rattle.tv_program.specs.Trees.{Expression, Condition, Conditions, truth, compare, negated, all_of, some_of}
use Rattle.tv_program.specs.Views.{tests_of}
use Rattle.tv_language.specs.Symbols.{Symbol, fixed}
use Rattle.tv_language.specs.Sums.{IsSum}

-- the relation that a token stands for
abbrev pub relation_of : TokenKind → Option Relation
relation_of Less = Some relations.Less
relation_of LessEqual = Some relations.LessEqual
relation_of Greater = Some relations.Greater
relation_of GreaterEqual = Some relations.GreaterEqual
relation_of Equal = Some relations.Equal
relation_of NotEqual = Some relations.NotEqual
relation_of kind = None

-- a list of one part is that part
abbrev pub joined : (Conditions → Condition) → List Condition → Condition
joined make [] = make (tests_of [])
joined make (c ∷ []) = c
joined make (c ∷ d ∷ cs) = make (tests_of (c ∷ d ∷ cs))

mutual
  pub data IsPlain : ℕ → Condition → List Symbol → List Symbol → Type 0 where
    always : {n : ℕ} {rest : List Symbol} → IsPlain n (truth true) (fixed True ∷ rest) rest
    never : {n : ℕ} {rest : List Symbol} → IsPlain n (truth false) (fixed False ∷ rest) rest
    denied : {n : ℕ} {c : Condition} {ts rest : List Symbol} → IsPlain n c ts rest → IsPlain (suc n) (negated c) (fixed Not ∷ ts) rest
    bracketed : {n : ℕ} {c : Condition} {ts rest : List Symbol} → IsCondition n c ts (fixed RightRound ∷ rest) → IsPlain (suc n) c (fixed LeftRound ∷ ts) rest

  pub data IsLiteral : ℕ → Condition → List Symbol → List Symbol → Type 0 where
    plain : {n : ℕ} {c : Condition} {ts rest : List Symbol} → IsPlain n c ts rest → IsLiteral n c ts rest
    comparison : {n : ℕ} {a b : Expression} {kind : TokenKind} {relation : Relation} {ts us rest : List Symbol} → IsSum n a ts (fixed kind ∷ us) → relation_of kind ≡ Some relation → IsSum n b us rest → IsLiteral n (compare relation a b) ts rest

  -- { "&&" literal }
  pub data AreLiterals : ℕ → List Condition → List Symbol → List Symbol → Type 0 where
    no_literal : {n : ℕ} {rest : List Symbol} → AreLiterals n [] rest rest
    and : {n : ℕ} {c : Condition} {cs : List Condition} {ts us rest : List Symbol} → IsLiteral n c ts us → AreLiterals n cs us rest → AreLiterals n (c ∷ cs) (fixed And ∷ ts) rest

  pub data IsConjunction : ℕ → Condition → List Symbol → List Symbol → Type 0 where
    literals : {n : ℕ} {c : Condition} {cs : List Condition} {ts us rest : List Symbol} → IsLiteral n c ts us → AreLiterals n cs us rest → IsConjunction n (joined all_of (c ∷ cs)) ts rest

  -- { "||" conjunction }
  pub data AreConjunctions : ℕ → List Condition → List Symbol → List Symbol → Type 0 where
    no_conjunction : {n : ℕ} {rest : List Symbol} → AreConjunctions n [] rest rest
    or : {n : ℕ} {c : Condition} {cs : List Condition} {ts us rest : List Symbol} → IsConjunction n c ts us → AreConjunctions n cs us rest → AreConjunctions n (c ∷ cs) (fixed Or ∷ ts) rest

  pub data IsCondition : ℕ → Condition → List Symbol → List Symbol → Type 0 where
    conjunctions : {n : ℕ} {c : Condition} {cs : List Condition} {ts us rest : List Symbol} → IsConjunction n c ts us → AreConjunctions n cs us rest → IsCondition n (joined some_of (c ∷ cs)) ts rest
