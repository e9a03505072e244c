-- The tokens of a program as they are read: a name, a label or a draw that passes a limit is marked as refused.
use Rattle.std.specs.Prelude.{ℕ, Bool, true, false, List, [], ◌∷◌, take, Option, None, Some}
use Rattle.tv_language.specs.declared.token.TokenKind.{TokenKind}
use Rattle.tv_language.specs.declared.token.TokenKind.TheVariants.{Start, From, Name, Number, Nondet}
use Rattle.tv_language.specs.declared.token.Token.{Token}
use Rattle.tv_language.specs.Numbers.{value_of_digits}
use Rattle.tv_program.specs.Words.{Word, number_of}
use Rattle.tv_language.specs.Symbols.{Symbol, name, label, fixed, Lexeme, lexemes, Vocabulary, is_colon, variable_words, label_words, by_first_place}
use Rattle.tv_reading.specs.Marks as marks
use Rattle.tv_reading.specs.Marks.{Mark, plain, refused, TooMany, number_mark, draw_mark}

-- ---- the words that have numbers

-- the label of the first START
abbrev pub second_word : List Lexeme → Option Word
second_word [] = None
second_word (x ∷ []) = None
second_word (x ∷ y ∷ xs) = Some y.word

abbrev pub label_behind : TokenKind → List Lexeme → Option Word → Option Word
label_behind Start xs later = second_word xs
label_behind kind xs later = later

abbrev pub start_word : List Lexeme → Option Word
start_word [] = None
start_word (x ∷ xs) = label_behind x.kind xs (start_word xs)

-- words with one of them in front
abbrev pub moved_in_front : Option ℕ → Word → List Word → List Word
moved_in_front None w ws = ws
moved_in_front (Some number) w ws = by_first_place (w ∷ []) ws

abbrev pub led_by : Option Word → List Word → List Word
led_by None ws = ws
led_by (Some w) ws = moved_in_front (number_of w ws) w ws

-- The first 512 names of variables, and the first 1,024 labels, by their first place in the text; START's label stands in front
-- wherever START stands.
abbrev pub vocabulary : List Lexeme → Vocabulary
vocabulary xs = record {
  variables = take 512 (by_first_place [] (variable_words false xs));
  labels = led_by (start_word xs) (take 1024 (by_first_place [] (label_words false xs)));
}

-- ---- marks

-- a word that has no number is one too many
abbrev pub numbered : TokenKind → (ℕ → Symbol) → Option ℕ → Mark
numbered kind make None = refused TooMany kind
numbered kind make (Some n) = plain (make n)

-- A name or a number is a label right after a colon. A label one too many is marked as a number, as no other number is.
abbrev pub mark_by : Vocabulary → Bool → ℕ → TokenKind → Word → Mark
mark_by v true draws Name w = numbered Number label (number_of w v.labels)
mark_by v true draws Number w = numbered Number label (number_of w v.labels)
mark_by v false draws Name w = numbered Name name (number_of w v.variables)
mark_by v false draws Number w = number_mark (value_of_digits w)
mark_by v behind_colon draws Nondet w = draw_mark true draws
mark_by v behind_colon draws kind w = plain (fixed kind)

-- the draws of an edge are counted from its FROM on
abbrev pub draws_behind : TokenKind → ℕ → ℕ
draws_behind From draws = 0
draws_behind kind draws = marks.draws_behind kind draws

unfoldable pub marks_from : Vocabulary → Bool → ℕ → List Lexeme → List Mark
marks_from v behind_colon draws [] = []
marks_from v behind_colon draws (x ∷ xs) =
    mark_by v behind_colon draws x.kind x.word ∷ marks_from v (is_colon x.kind) (draws_behind x.kind draws) xs

-- the marks of a program's tokens
abbrev pub program_marks : List ℕ → List Token → List Mark
program_marks text tokens = marks_from (vocabulary (lexemes text tokens)) false 0 (lexemes text tokens)
