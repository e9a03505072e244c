-- The tokens of a text as they are read: a token that may not stand in the text at all is marked with the reason.
use Rattle.std.specs.Prelude.{◌≡◌, ℕ, suc, ◌+◌, ◌^◌, Bool, true, false, ◌||◌, List, [], ◌∷◌, map, length, drop, Option, Some, None, nat_lt, codes, if◌then◌else◌}
use Rattle.std.specs.Str.{bytes_eq}
use Rattle.tv_language.specs.declared.token.TokenKind.{TokenKind}
use Rattle.tv_language.specs.declared.token.TokenKind.TheVariants as kinds
use Rattle.tv_language.specs.declared.token.Token.{Token}
use Rattle.tv_language.specs.Numbers.{value_of_digits}
use Rattle.tv_program.specs.Words.{Word, number_of, words_with}
use Rattle.tv_language.specs.Symbols.{Symbol, number, name, drawn, fixed, lexeme}

-- why a token is refused, in the order that counts where there are several reasons
pub data Kind : Type 0 where
  Syntax : Kind
  Wide : Kind
  Deep : Kind
  NotLinear : Kind
  TwoStarts : Kind
  TooMany : Kind
  UnknownName : Kind

pub data Mark : Type 0 where
  plain : Symbol → Mark
  -- a token of this kind that is refused
  refused : Kind → TokenKind → Mark

-- what is refused stands in no text
abbrev pub symbol_of : Mark → Symbol
symbol_of (plain s) = s
symbol_of (refused k kind) = fixed kinds.Unread

abbrev pub symbols_of : List Mark → List Symbol
symbols_of ms = map symbol_of ms

-- ---- one token

-- a name with its number, where names are added up to 512 of them
abbrev pub new_name : Option ℕ → ℕ → Mark
new_name (Some k) count = plain (name k)
new_name None count = if nat_lt count 512 then plain (name count) else refused TooMany kinds.Name

-- the two words of formulas that are no names there
abbrev pub is_formula_word : Word → Bool
is_formula_word w = bytes_eq w (codes "at") || bytes_eq w (codes "term")

-- a name with its number, where none is added
abbrev pub known_name : Bool → Option ℕ → Mark
known_name true o = plain (fixed kinds.Name)
known_name false None = refused UnknownName kinds.Name
known_name false (Some k) = plain (name k)

abbrev pub name_mark : Bool → Word → List Word → Mark
name_mark true w names = new_name (number_of w names) (length names)
name_mark false w names = known_name (is_formula_word w) (number_of w names)

-- there are draws where names are added, and 64 at most
abbrev pub draw_mark : Bool → ℕ → Mark
draw_mark false draws = plain (fixed kinds.Nondet)
draw_mark true draws = if nat_lt draws 64 then plain (drawn draws) else refused TooMany kinds.Nondet

abbrev pub number_mark : ℕ → Mark
number_mark n = if nat_lt n (2 ^ 62) then plain (number n) else plain (fixed kinds.Wide)

abbrev pub mark_by : Bool → List Word → ℕ → TokenKind → Word → Mark
mark_by grows names draws kinds.Name w = name_mark grows w names
mark_by grows names draws kinds.Number w = number_mark (value_of_digits w)
mark_by grows names draws kinds.Nondet w = draw_mark grows draws
mark_by grows names draws kind w = plain (fixed kind)

abbrev pub names_behind : Bool → TokenKind → Word → List Word → List Word
names_behind true kinds.Name w names = if nat_lt (length names) 512 then words_with w names else names
names_behind grows kind w names = names

abbrev pub draws_behind : TokenKind → ℕ → ℕ
draws_behind kinds.Nondet draws = if nat_lt draws 64 then suc draws else draws
draws_behind kind draws = draws

-- ---- where reading stands

-- A text with its tokens, whether names are added, and from which level brackets count; how many tokens are taken, and the names
-- and the draws up to there.
pub record Stand : Type 0 where
  pub text : List ℕ
  pub tokens : List Token
  pub grows : Bool
  pub level : ℕ
  pub at : ℕ
  pub names : List Word
  pub draws : ℕ

unfoldable pub marks_from : List ℕ → Bool → List Word → ℕ → List Token → List Mark
marks_from text grows names draws [] = []
marks_from text grows names draws (t ∷ ts) =
    mark_by grows names draws t.kind (lexeme text t).word
    ∷ marks_from text grows (names_behind grows t.kind (lexeme text t).word names) (draws_behind t.kind draws) ts

-- what is left to read, each name as one of a variable
abbrev pub left : Stand → List Mark
left s = marks_from s.text s.grows s.names s.draws (drop s.at s.tokens)

-- after a token that is read
abbrev pub past : Stand → Token → Stand
past s t = record {
  text = s.text;
  tokens = s.tokens;
  grows = s.grows;
  level = s.level;
  at = s.at + 1;
  names = names_behind s.grows t.kind (lexeme s.text t).word s.names;
  draws = draws_behind t.kind s.draws;
}

abbrev pub first : {X : Type 0} → List X → Option X
first [] = None
first (x ∷ xs) = Some x

-- The tokens from the one to the other are read: their names and draws are counted, and nothing else is changed.
pub data Passes : Stand → Stand → Type 0 where
  stay : (s : Stand) → Passes s s
  pass : {s u : Stand} {t : Token} → Passes s u → first (drop u.at u.tokens) ≡ Some t → Passes s (past u t)
