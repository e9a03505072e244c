-- The tokens of a formula as its grammar sees them, under the words of a program.
use Rattle.std.specs.Prelude.{◌^◌, List, [], map, nat_lt, if◌then◌else◌}
use Rattle.tv_language.specs.declared.token.TokenKind.{TokenKind}
use Rattle.tv_language.specs.declared.token.TokenKind.TheVariants as kinds
use Rattle.tv_language.specs.Numbers.{value_of_digits}
use Rattle.tv_program.specs.Words.{Word, number_of}
use Rattle.tv_language.specs.Symbols.{Symbol, number, name, label, fixed, numbered, Lexeme, Vocabulary}
use Rattle.tv_reading.specs.Marks.{is_formula_word}

-- A token of a formula.
pub record Sign : Type 0 where
  -- what it is in a sum, or between sums and formulas
  pub symbol : Symbol
  -- what it is where the label of a location stands
  pub label : Symbol
  -- the bytes of a name; none of another token
  pub word : Word

-- A name is a variable, but `at` and `term` are none. A number is below 2^62, and there are no draws.
abbrev pub symbol_in : List Word → TokenKind → Word → Symbol
symbol_in variables kinds.Name w = if is_formula_word w then fixed kinds.Name else numbered name (number_of w variables)
symbol_in variables kinds.Number w = if nat_lt (value_of_digits w) (2 ^ 62) then number (value_of_digits w) else fixed kinds.Wide
symbol_in variables kind w = fixed kind

-- A label is a name or a number, but neither `at` nor `term`.
abbrev pub label_in : List Word → TokenKind → Word → Symbol
label_in labels kinds.Name w = if is_formula_word w then fixed kinds.Name else numbered label (number_of w labels)
label_in labels kinds.Number w = numbered label (number_of w labels)
label_in labels kind w = fixed kind

abbrev pub word_in : TokenKind → Word → Word
word_in kinds.Name w = w
word_in kind w = []

abbrev pub sign : Vocabulary → Lexeme → Sign
sign v x = record { symbol = symbol_in v.variables x.kind x.word; label = label_in v.labels x.kind x.word; word = word_in x.kind x.word }

abbrev pub signs : Vocabulary → List Lexeme → List Sign
signs v xs = map (sign v) xs

abbrev pub symbols_of : List Sign → List Symbol
symbols_of ts = map (λ t. t.symbol) ts
