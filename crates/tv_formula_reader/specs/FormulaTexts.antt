-- The grammar of formulas, and the text of a formula. `IsFormula n f ts rest` says that the signs ts are a formula, with brackets, signs
-- and operators nested at most n deep, that stands for the property f, and then the rest.
--
-- formula     = conjunction { "||" conjunction }      conjunction = literal { "&&" literal }
-- literal     = plain | sum relation sum
-- plain       = "!" plain | "true" | "false" | "term" | "at" "(" label ")" | "(" formula ")"
--             | "[" one "]" argument | "[" two "]" argument argument
-- argument    = "(" formula ")"
-- one         = AX EX AF EF AG EG                      two = AU EU AW EW AR ER AM EM
use Rattle.std.specs.Prelude.{◌≡◌, ℕ, suc, true, false, List, [], ◌∷◌, ◌++◌, Some, codes}
use Rattle.tv_language.specs.declared.token.TokenKind.{TokenKind}
use Rattle.tv_language.specs.declared.token.TokenKind.TheVariants as kinds
use Rattle.tv_language.specs.declared.token.Token.{Token}
use Rattle.tv_language.specs.Tokens.{IsTokens}
use Rattle.tv_program.specs.declared.tree.Relation.{Relation}
use Rattle.tv_program.specs.Trees.{Expression}
use Rattle.tv_program.specs.Systems.{System}
use Rattle.tv_language.specs.Symbols.{label, fixed, lexemes, Vocabulary}
use Rattle.tv_language.specs.Sums.{IsSum}
use Rattle.tv_language.specs.Conditions.{relation_of}
use Rattle.tv_formula.specs.declared.tree.Path.{Path}
use Rattle.tv_formula.specs.declared.tree.Shape.{Shape}
use Rattle.tv_formula.specs.Properties.{Property, truth, compare, at, term, negated, all_of, some_of, fix, Properties}
use Rattle.tv_formula.specs.Views.{properties_of}
use Rattle.tv_formula_reader.specs.Signs.{Sign, signs, symbols_of}
use Rattle.tv_formula_reader.specs.declared.operators.Single.{Single}
use Rattle.tv_formula_reader.specs.declared.operators.Operator.TheVariants.{One, Two}
use Rattle.tv_formula_reader.specs.Operators.{operator_of, applied}

-- a list of one part is that part
abbrev pub joined : (Properties → Property) → List Property → Property
joined make [] = make (properties_of [])
joined make (f ∷ []) = f
joined make (f ∷ g ∷ fs) = make (properties_of (f ∷ g ∷ fs))

mutual
  pub data IsPlain : ℕ → Property → List Sign → List Sign → Type 0 where
    always : {n : ℕ} {t : Sign} {rest : List Sign} → t.symbol ≡ fixed kinds.True → IsPlain n (truth true) (t ∷ rest) rest
    never : {n : ℕ} {t : Sign} {rest : List Sign} → t.symbol ≡ fixed kinds.False → IsPlain n (truth false) (t ∷ rest) rest
    ends : {n : ℕ} {t : Sign} {rest : List Sign} → t.symbol ≡ fixed kinds.Name → t.word ≡ codes "term" → IsPlain n term (t ∷ rest) rest
    located : {n l : ℕ} {a o t c : Sign} {rest : List Sign} → a.symbol ≡ fixed kinds.Name → a.word ≡ codes "at" → o.symbol ≡ fixed kinds.LeftRound → t.label ≡ label l → c.symbol ≡ fixed kinds.RightRound → IsPlain n (at l) (a ∷ o ∷ t ∷ c ∷ rest) rest
    denied : {n : ℕ} {t : Sign} {f : Property} {ts rest : List Sign} → t.symbol ≡ fixed kinds.Not → IsPlain n f ts rest → IsPlain (suc n) (negated f) (t ∷ ts) rest
    bracketed : {n : ℕ} {f : Property} {ts rest : List Sign} → IsArgument n f ts rest → IsPlain (suc n) f ts rest
    of_one : {n : ℕ} {o t c : Sign} {p : Path} {k : Single} {f : Property} {ts rest : List Sign} → o.symbol ≡ fixed kinds.LeftSquare → operator_of t.word ≡ Some (One p k) → c.symbol ≡ fixed kinds.RightSquare → IsArgument n f ts rest → IsPlain (suc n) (applied p k f) (o ∷ t ∷ c ∷ ts) rest
    of_two : {n : ℕ} {o t c : Sign} {p : Path} {s : Shape} {f g : Property} {ts us rest : List Sign} → o.symbol ≡ fixed kinds.LeftSquare → operator_of t.word ≡ Some (Two p s) → c.symbol ≡ fixed kinds.RightSquare → IsArgument n f ts us → IsArgument n g us rest → IsPlain (suc n) (fix p s f g) (o ∷ t ∷ c ∷ ts) rest

  -- "(" formula ")"
  pub data IsArgument : ℕ → Property → List Sign → List Sign → Type 0 where
    enclosed : {n : ℕ} {o c : Sign} {f : Property} {ts rest : List Sign} → o.symbol ≡ fixed kinds.LeftRound → IsFormula n f ts (c ∷ rest) → c.symbol ≡ fixed kinds.RightRound → IsArgument n f (o ∷ ts) rest

  pub data IsLiteral : ℕ → Property → List Sign → List Sign → Type 0 where
    plain : {n : ℕ} {f : Property} {ts rest : List Sign} → IsPlain n f ts rest → IsLiteral n f ts rest
    -- the signs before and after that of the relation are a sum each
    comparison : {n : ℕ} {a b : Expression} {kind : TokenKind} {relation : Relation} {rest : List Sign} (left : List Sign) (t : Sign) (right : List Sign) → IsSum n a (symbols_of left) [] → t.symbol ≡ fixed kind → relation_of kind ≡ Some relation → IsSum n b (symbols_of right) [] → IsLiteral n (compare relation a b) (left ++ (t ∷ (right ++ rest))) rest

  -- { "&&" literal }
  pub data AreLiterals : ℕ → List Property → List Sign → List Sign → Type 0 where
    no_literal : {n : ℕ} {rest : List Sign} → AreLiterals n [] rest rest
    and : {n : ℕ} {t : Sign} {f : Property} {fs : List Property} {ts us rest : List Sign} → t.symbol ≡ fixed kinds.And → IsLiteral n f ts us → AreLiterals n fs us rest → AreLiterals n (f ∷ fs) (t ∷ ts) rest

  pub data IsConjunction : ℕ → Property → List Sign → List Sign → Type 0 where
    literals : {n : ℕ} {f : Property} {fs : List Property} {ts us rest : List Sign} → IsLiteral n f ts us → AreLiterals n fs us rest → IsConjunction n (joined all_of (f ∷ fs)) ts rest

  -- { "||" conjunction }
  pub data AreConjunctions : ℕ → List Property → List Sign → List Sign → Type 0 where
    no_conjunction : {n : ℕ} {rest : List Sign} → AreConjunctions n [] rest rest
    or : {n : ℕ} {t : Sign} {f : Property} {fs : List Property} {ts us rest : List Sign} → t.symbol ≡ fixed kinds.Or → IsConjunction n f ts us → AreConjunctions n fs us rest → AreConjunctions n (f ∷ fs) (t ∷ ts) rest

  pub data IsFormula : ℕ → Property → List Sign → List Sign → Type 0 where
    conjunctions : {n : ℕ} {f : Property} {fs : List Property} {ts us rest : List Sign} → IsConjunction n f ts us → AreConjunctions n fs us rest → IsFormula n (joined some_of (f ∷ fs)) ts rest

-- the words of a program
abbrev pub words_of : System → Vocabulary
words_of p = record { variables = p.variables; labels = p.locations }

abbrev pub ended : Sign
ended = record { symbol = fixed kinds.End; label = fixed kinds.End; word = [] }

-- The text is a formula over the words of the program, within 64 levels.
pub record IsFormulaText (p : System) (text : List ℕ) (f : Property) : Type 0 where
  pub tokens : List Token
  pub scanned : IsTokens 0 text tokens
  pub derived : IsFormula 64 f (signs (words_of p) (lexemes text tokens)) (ended ∷ [])
