-- When the text of a tree is read as that tree again.
use Rattle.std.specs.Prelude.{◌≡◌, ℕ, suc, true, List, [], ◌∷◌, slice_index, slice_index_or, Bool, EachIndex, Some, IsTrue, length}
use Rattle.std.specs.List.{list_all}
use Rattle.tv_language.specs.declared.token.TokenKind.TheVariants.{Name, End}
use Rattle.tv_language.specs.declared.token.Token.{Token}
use Rattle.tv_language.specs.WordTexts.{begins_name, continues_name, word_kind}
use Rattle.tv_language.specs.Tokens.{IsTokens}
use Rattle.tv_program.specs.Words.{Word, number_of}
use Rattle.tv_program.specs.Trees.{Expression, number, variable, draw, minus, sum, product, Expressions, no_part, part, Condition, truth, compare, negated, all_of, some_of, Conditions, no_test, test}
use Rattle.tv_program.specs.Limits.{expression_fits, condition_fits}
use Rattle.tv_language.specs.Symbols.{Symbol, fixed, lexemes, symbols}
use Rattle.tv_language.specs.Sums.{IsSum}
use Rattle.tv_language.specs.Conditions.{IsCondition}
use Rattle.tv_language.specs.Programs.{draws_in, draws_tested}
use Rattle.tv_reading.specs.Marks.{plain, Stand, left, Passes}
use Rattle.tv_reading.specs.Readings.{begun, sum_levels, condition_levels}
use Rattle.tv_reading.specs.Texts.{IsLongest}

-- a word that is a name and not reserved
pub record IsName (word : Word) : Type 0 where
  pub begins : begins_name (slice_index word 0) ≡ true
  pub continues : list_all continues_name word ≡ true
  pub free : word_kind word ≡ Name

-- the words are names, each once
pub record AreNames (words : List Word) : Type 0 where
  pub are_names : EachIndex words (λ v. IsName (slice_index_or words v []))
  pub differ : EachIndex words (λ v. number_of (slice_index_or words v []) words ≡ Some v)

abbrev mutual
  -- how many draws there are after an expression, with `draws` before it
  pub draws_after : Expression → ℕ → ℕ
  draws_after (number z) draws = draws
  draws_after (variable v) draws = draws
  draws_after (draw d) draws = suc draws
  draws_after (minus e) draws = draws_after e draws
  draws_after (sum es) draws = draws_after_all es draws
  draws_after (product es) draws = draws_after_all es draws

  pub draws_after_all : Expressions → ℕ → ℕ
  draws_after_all no_part draws = draws
  draws_after_all (part e es) draws = draws_after_all es (draws_after e draws)

abbrev mutual
  -- the draws of the expression are numbered in the order of the text, with `draws` before it
  pub IsOrdered : Expression → ℕ → Type 0
  IsOrdered (number z) draws = Unit {0}
  IsOrdered (variable v) draws = Unit {0}
  IsOrdered (draw d) draws = d ≡ draws
  IsOrdered (minus e) draws = IsOrdered e draws
  IsOrdered (sum es) draws = AreOrdered es draws
  IsOrdered (product es) draws = AreOrdered es draws

  pub AreOrdered : Expressions → ℕ → Type 0
  AreOrdered no_part draws = Unit {0}
  AreOrdered (part e es) draws = IsOrdered e draws × AreOrdered es (draws_after e draws)

abbrev mutual
  pub draws_after_test : Condition → ℕ → ℕ
  draws_after_test (truth b) draws = draws
  draws_after_test (compare r e f) draws = draws_after f (draws_after e draws)
  draws_after_test (negated c) draws = draws_after_test c draws
  draws_after_test (all_of cs) draws = draws_after_tests cs draws
  draws_after_test (some_of cs) draws = draws_after_tests cs draws

  pub draws_after_tests : Conditions → ℕ → ℕ
  draws_after_tests no_test draws = draws
  draws_after_tests (test c cs) draws = draws_after_tests cs (draws_after_test c draws)

abbrev mutual
  pub IsOrderedTest : Condition → ℕ → Type 0
  IsOrderedTest (truth b) draws = Unit {0}
  IsOrderedTest (compare r e f) draws = IsOrdered e draws × IsOrdered f (draws_after e draws)
  IsOrderedTest (negated c) draws = IsOrderedTest c draws
  IsOrderedTest (all_of cs) draws = AreOrderedTests cs draws
  IsOrderedTest (some_of cs) draws = AreOrderedTests cs draws

  pub AreOrderedTests : Conditions → ℕ → Type 0
  AreOrderedTests no_test draws = Unit {0}
  AreOrderedTests (test c cs) draws = IsOrderedTest c draws × AreOrderedTests cs (draws_after_test c draws)

-- the text has tokens, and they are a sum that stands for the expression, within n levels
pub record IsSumText (words : List Word) (n : ℕ) (e : Expression) (text : List ℕ) : Type 0 where
  pub tokens : List Token
  pub scanned : IsTokens 0 text tokens
  pub derived : (labels : List Word) → IsSum n e (symbols (record { variables = words; labels = labels }) (lexemes text tokens)) (fixed End ∷ [])

pub record IsConditionText (words : List Word) (n : ℕ) (c : Condition) (text : List ℕ) : Type 0 where
  pub tokens : List Token
  pub scanned : IsTokens 0 text tokens
  pub derived : (labels : List Word) → IsCondition n c (symbols (record { variables = words; labels = labels }) (lexemes text tokens)) (fixed End ∷ [])

-- An expression that some text stands for within n levels is that of this text, too, within as many. Its draws are numbered in the
-- order of the text.
abbrev pub IsSumAgain : List Word → Expression → List ℕ → Type 0
IsSumAgain words e text =
    (draws n : ℕ) (ts rest : List Symbol) → AreNames words → IsTrue (expression_fits (length words) draws e) → IsOrdered e 0 → IsSum n e ts rest → IsSumText words n e text

-- the same of a condition
abbrev pub IsConditionAgain : List Word → Condition → List ℕ → Type 0
IsConditionAgain words c text =
    (draws n : ℕ) (ts rest : List Symbol) → AreNames words → IsTrue (condition_fits (length words) draws c) → IsOrderedTest c 0 → IsCondition n c ts rest → IsConditionText words n c text

-- ---- as it is read

-- A reading from the front of the text, with these names, has the expression in front of it, and after it the end of the text.
abbrev pub IsSumInFront : Bool → List Word → Expression → List ℕ → Type 0
IsSumInFront grows words e text = (tokens : List Token) → IsTokens 0 text tokens → IsLongest (IsSum (sum_levels (begun text tokens words grows))) e (left (begun text tokens words grows)) (plain (fixed End) ∷ [])

abbrev pub IsConditionInFront : Bool → List Word → Condition → List ℕ → Type 0
IsConditionInFront grows words c text = (tokens : List Token) → IsTokens 0 text tokens → IsLongest (IsCondition (condition_levels (begun text tokens words grows))) c (left (begun text tokens words grows)) (plain (fixed End) ∷ [])

-- a reading of a text that began with names went from the one place to the other, and has these names there
pub record Went (s u : Stand) (words : List Word) : Type 0 where
  pub scanned : IsTokens 0 s.text s.tokens
  pub began : AreNames s.names
  pub passes : Passes s u
  pub names : u.names ≡ words

-- The expression that a reading found is found again at the front of this text, by a reading that begins with the names known then, and
-- adds names if that one did. It has no draw; where no name is added, none has.
abbrev pub IsSumReadAgain : List Word → Expression → List ℕ → Type 0
IsSumReadAgain words e text =
    (s u : Stand) → Went s u words → (s.grows ≡ true → draws_in e ≡ 0) → IsLongest (IsSum (sum_levels s)) e (left s) (left u) → IsSumInFront s.grows words e text

-- the same of a condition
abbrev pub IsConditionReadAgain : List Word → Condition → List ℕ → Type 0
IsConditionReadAgain words c text =
    (s u : Stand) → Went s u words → (s.grows ≡ true → draws_tested c ≡ 0) → IsLongest (IsCondition (condition_levels s)) c (left s) (left u) → IsConditionInFront s.grows words c text
