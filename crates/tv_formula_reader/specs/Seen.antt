-- The tokens of a formula as they are read: what may not stand in the text at all is marked with the reason.
use Rattle.std.specs.Prelude.{ℕ, Bool, true, false, List, map, Option, Some, None}
use Rattle.tv_language.specs.declared.token.TokenKind.{TokenKind}
use Rattle.tv_language.specs.declared.token.TokenKind.TheVariants as kinds
use Rattle.tv_language.specs.declared.token.Token.{Token}
use Rattle.tv_program.specs.Words.{Word, number_of}
use Rattle.tv_language.specs.Symbols.{label, fixed, Lexeme, lexemes, Vocabulary}
use Rattle.tv_reading.specs.Marks.{UnknownName, Mark, plain, refused, is_formula_word, mark_by}
use Rattle.tv_formula_reader.specs.Signs.{word_in}

pub record Seen : Type 0 where
  -- as a part of a sum, or as what stands between parts
  pub mark : Mark
  -- as the label of a location
  pub label : Mark
  -- the bytes of a name; none of another token
  pub word : Word

-- a label with its number; the words `at` and `term` are none
abbrev pub known_label : Bool → Option ℕ → Mark
known_label true o = plain (fixed kinds.Name)
known_label false None = refused UnknownName kinds.Name
known_label false (Some l) = plain (label l)

abbrev pub label_by : List Word → TokenKind → Word → Mark
label_by labels kinds.Name w = known_label (is_formula_word w) (number_of w labels)
label_by labels kinds.Number w = known_label false (number_of w labels)
label_by labels kind w = plain (fixed kind)

-- a token under these words; no name is added, and there are no draws
abbrev pub seen : Vocabulary → Lexeme → Seen
seen v x = record { mark = mark_by false v.variables 0 x.kind x.word; label = label_by v.labels x.kind x.word; word = word_in x.kind x.word }

abbrev pub seen_all : Vocabulary → List ℕ → List Token → List Seen
seen_all v text ts = map (seen v) (lexemes text ts)

abbrev pub marks : List Seen → List Mark
marks ts = map (λ t. t.mark) ts
