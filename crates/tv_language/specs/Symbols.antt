-- The tokens of a text as the grammar sees them: a name or a label is a number.
use Rattle.std.specs.Prelude.{ℕ, suc, Bool, true, false, not, ◌&&◌, if◌then◌else◌, List, [], ◌∷◌, map, take, drop, Option, None, Some}
use Rattle.tv_language.specs.declared.token.TokenKind.{TokenKind}
use Rattle.tv_language.specs.declared.token.TokenKind.TheVariants.{From, Nondet, Colon, Name, Number, Unread}
use Rattle.tv_language.specs.declared.token.Token.{Token}
use Rattle.tv_language.specs.Numbers.{value_of_digits}
use Rattle.tv_program.specs.Words.{Word, number_of, words_with}

-- a token and its bytes
pub record Lexeme : Type 0 where
  pub kind : TokenKind
  pub word : Word

abbrev pub lexeme : List ℕ → Token → Lexeme
lexeme text t = record { kind = t.kind; word = take t.len (drop t.at text) }

abbrev pub lexemes : List ℕ → List Token → List Lexeme
lexemes text ts = map (lexeme text) ts

pub data Symbol : Type 0 where
  -- a number below 2^62
  number : ℕ → Symbol
  -- a variable, by its number
  name : ℕ → Symbol
  -- a location, by its number
  label : ℕ → Symbol
  -- the word nondet, by the number of the draw within its edge
  drawn : ℕ → Symbol
  -- any other token
  fixed : TokenKind → Symbol

-- the words of a text that are names of variables, and those that are labels of locations, in the order of their numbers
pub record Vocabulary : Type 0 where
  pub variables : List Word
  pub labels : List Word

-- the symbol with this number; a word that has none stands in no text
abbrev pub numbered : (ℕ → Symbol) → Option ℕ → Symbol
numbered make None = fixed Unread
numbered make (Some n) = make n

-- a token is a label where it comes right after a colon
abbrev pub symbol_by : Vocabulary → Bool → ℕ → TokenKind → Word → Symbol
symbol_by v true draws Name w = numbered label (number_of w v.labels)
symbol_by v true draws Number w = numbered label (number_of w v.labels)
symbol_by v false draws Name w = numbered name (number_of w v.variables)
symbol_by v false draws Number w = number (value_of_digits w)
symbol_by v behind_colon draws Nondet w = drawn draws
symbol_by v behind_colon draws kind w = fixed kind

abbrev pub is_colon : TokenKind → Bool
is_colon Colon = true
is_colon kind = false

-- the draws of an edge are counted from its FROM on
abbrev pub draws_behind : TokenKind → ℕ → ℕ
draws_behind From draws = 0
draws_behind Nondet draws = suc draws
draws_behind kind draws = draws

-- the symbols of the tokens that are left, told whether they stand right after a colon, and how many draws come before
abbrev pub symbols_from : Vocabulary → Bool → ℕ → List Lexeme → List Symbol
symbols_from v behind_colon draws [] = []
symbols_from v behind_colon draws (x ∷ xs) =
    symbol_by v behind_colon draws x.kind x.word ∷ symbols_from v (is_colon x.kind) (draws_behind x.kind draws) xs

-- the symbols of a program's tokens
abbrev pub symbols : Vocabulary → List Lexeme → List Symbol
symbols v xs = symbols_from v false 0 xs

-- ---- the vocabulary of a text

abbrev pub is_name : TokenKind → Bool
is_name Name = true
is_name kind = false

-- a label is a name or a number
abbrev pub is_label : TokenKind → Bool
is_label Name = true
is_label Number = true
is_label kind = false

-- a word in front of others, where it is one of them
abbrev pub in_front : Bool → Word → List Word → List Word
in_front b w ws = if b then w ∷ ws else ws

abbrev pub variable_by : Bool → TokenKind → Word → List Word → List Word
variable_by behind_colon kind w ws = in_front (not behind_colon && is_name kind) w ws

abbrev pub label_by : Bool → TokenKind → Word → List Word → List Word
label_by behind_colon kind w ws = in_front (behind_colon && is_label kind) w ws

-- the words that are names of variables, in the order of the text
abbrev pub variable_words : Bool → List Lexeme → List Word
variable_words behind_colon [] = []
variable_words behind_colon (x ∷ xs) = variable_by behind_colon x.kind x.word (variable_words (is_colon x.kind) xs)

-- the words that are labels, in the order of the text
abbrev pub label_words : Bool → List Lexeme → List Word
label_words behind_colon [] = []
label_words behind_colon (x ∷ xs) = label_by behind_colon x.kind x.word (label_words (is_colon x.kind) xs)

-- these words after those that are known, each once, by its first place
abbrev pub by_first_place : List Word → List Word → List Word
by_first_place known [] = known
by_first_place known (w ∷ ws) = by_first_place (words_with w known) ws
