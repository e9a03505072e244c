-- Where a reader of programs stands, and what it answers.
use Rattle.std.specs.Prelude.{◌≡◌, ℕ, ◌≤◌, ◌<◌, Bool, true, false, ◌||◌, ◌&&◌, not, List, [], ◌∷◌, ◌++◌, length, drop, is_some, nat_le, map, Option, Some, None, Result, Ok, Err, Vec, IfSome}
use Rattle.std.specs.List.{list_all}
use Rattle.std.specs.Borrow.{Bor}
use Rattle.std.specs.Global.{Global}
use Rattle.tv_language.specs.declared.token.TokenKind.{TokenKind}
use Rattle.tv_language.specs.declared.token.TokenKind.TheVariants as kinds
use Rattle.tv_language.specs.declared.token.Token.{Token}
use Rattle.tv_program.specs.Words.{Word, number_of}
use Rattle.tv_program.specs.declared.tree.Command.{Command}
use Rattle.tv_program.specs.declared.tree.Edge.{Edge}
use Rattle.tv_program.specs.Trees.{Instruction}
use Rattle.tv_program.specs.Views.{instruction, transition, transitions}
use Rattle.tv_program.specs.Limits.{instruction_fits, transition_fits}
use Rattle.tv_language.specs.Symbols.{Vocabulary, lexeme, lexemes, variable_words}
use Rattle.tv_language.specs.Programs.{draws_counted}
use Rattle.tv_grammar.specs.Reads.{fault}
use Rattle.tv_grammar.specs.Langs.{headed}
use Rattle.tv_reading.specs.Marks as marks
use Rattle.tv_reading.specs.Marks.{Mark, Stand}
use Rattle.tv_reading.specs.Readings.{token_at, IsWithin}
use Rattle.tv_reader.specs.ProgramMarks.{mark_by, marks_from, led_by}
use Rattle.tv_reader.specs.ProgramGrammar.{Items, last_of_program}
use Rattle.tv_reading.specs.declared.reason.Reason.{Reason}
use Rattle.tv_reading.specs.Answers.{kind_of, Unless}
use Rattle.tv_reading.specs.Views.{is_last}
use Rattle.tv_reading.specs.declared.reason.Turn.{Turn}
use Rattle.tv_reading.specs.declared.reason.Turn.TheVariants.{On, Off}
use Rattle.tv_reader.specs.declared.items.ItemsRead.{ItemsRead}
use Rattle.tv_reader.specs.declared.reader.Reader.{Reader}

-- ---- tokens that are left

-- the last token, and no other, ends the list
abbrev pub is_closed : List Token → Bool
is_closed [] = false
is_closed (t ∷ []) = is_last t.kind
is_closed (t ∷ u ∷ ts) = not (is_last t.kind) && is_closed (u ∷ ts)

-- each of these words is among the names, or there are 512 of them
abbrev pub are_known : List Word → List Word → Bool
are_known names ws = list_all (λ w. is_some (number_of w names) || nat_le 512 (length names)) ws

-- ---- where a reader stands

abbrev pub words_of : Reader → Vocabulary
words_of r = record { variables = r.reading.names; labels = r.labels }

-- the tokens that are left, with the names and labels of the whole text
abbrev pub left : Reader → List Mark
left r = marks_from (words_of r) r.behind_colon r.reading.draws (lexemes r.reading.text (drop r.reading.at r.reading.tokens))

abbrev pub next_kind : Reader → TokenKind
next_kind r = (token_at r.reading).kind

abbrev pub next_mark : Reader → Mark
next_mark r = mark_by (words_of r) r.behind_colon r.reading.draws (token_at r.reading).kind (lexeme r.reading.text (token_at r.reading)).word

-- what reading does not change
pub record Fixture : Type 0 where
  pub text : List ℕ
  pub tokens : List Token
  pub names : List Word
  pub labels : List Word

abbrev pub fixture : Reader → Fixture
fixture r = record { text = r.reading.text; tokens = r.reading.tokens; names = r.reading.names; labels = r.labels }

abbrev pub IsKept : Reader → Reader → Type 0
IsKept r s = (x : Fixture) → fixture r ≡ x → fixture s ≡ x

-- A reading where names are added: all of them are known, and it has not passed the end. `b` says whether it stands after a colon.
pub record Steady (b : Bool) (s : Stand) : Type 0 where
  pub grows : s.grows ≡ true
  pub level : s.level ≡ 0
  pub within : IsWithin s
  pub known : are_known s.names (variable_words b (lexemes s.text (drop s.at s.tokens))) ≡ true
  pub closed : is_closed (drop s.at s.tokens) ≡ true

-- a reader reads its own text, steadily
pub record IsSteady (r : Reader) : Type 0 where
  pub text : r.text.now ≡ r.reading.text
  pub reads : Steady r.behind_colon r.reading

-- a token that neither ends the list nor changes the count of draws
abbrev pub is_passing : TokenKind → Bool
is_passing kinds.End = false
is_passing kinds.Unread = false
is_passing kinds.From = false
is_passing kinds.Nondet = false
is_passing kind = true

-- a token that is the same wherever it stands, too
abbrev pub is_fixed : TokenKind → Bool
is_fixed kinds.Name = false
is_fixed kinds.Number = false
is_fixed kinds.Wide = false
is_fixed kind = is_passing kind

-- ---- what it answers

-- memory runs out, or p holds
abbrev pub Settled : {X : Type 0} → Result X Reason → Type 0 → Type 0
Settled (Ok x) p = p
Settled (Err e) p = Unless e p

-- unless memory runs out, what reading does not change is the same
abbrev pub Keeps : {X : Type 0} → Result X Reason → Reader → Reader → Type 0
Keeps result r s = (x : Fixture) → fixture r ≡ x → Settled result (fixture s ≡ x)

abbrev pub turn_value : {X : Type 0} → Turn X → X
turn_value (On x) = x
turn_value (Off x) = x

-- ---- what it has read

abbrev pub instructions : Vec Command Global → List Instruction
instructions cs = map instruction cs.items

-- the commands of an edge so far fit the names and the draws, and have all its draws
pub record CommandsFit (r : Reader) (cs : Vec Command Global) : Type 0 where
  pub fit : list_all (instruction_fits (length r.reading.names) r.reading.draws) (instructions cs) ≡ true
  pub counted : draws_counted (instructions cs) ≡ r.reading.draws

abbrev pub starts_view : Option ℕ → List ℕ
starts_view None = []
starts_view (Some l) = l ∷ []

abbrev pub items_view : ItemsRead → Items
items_view x = record { starts = starts_view x.start; edges = transitions x.edges.items }

-- items with one more edge
abbrev pub edge_added : Items → Edge → Items
edge_added s e = record { starts = s.starts; edges = s.edges ++ transition e ∷ [] }

-- the items so far fit: there are not too many edges, and each fits; the location of START is one of those that have labels
pub record ItemsFit (r : Reader) (x : ItemsRead) : Type 0 where
  pub edges : list_all (transition_fits (length r.reading.names) (length r.labels)) (transitions x.edges.items) ≡ true
  pub bounded : length x.edges.items ≤ 4096
  pub started : IfSome x.start (λ l. l < length r.labels)

-- the end of the text comes, and nothing else is left, or what comes is at fault after these items
abbrev pub Ends : Items → Result (Unit {0}) Reason → List Mark → Type 0
Ends s (Ok x) ms = (headed marks.Syntax (last_of_program s)).read ms ≡ Ok (s, [])
Ends s (Err e) ms = Unless e ((headed marks.Syntax (last_of_program s)).read ms ≡ fault (kind_of e) ms)

-- nothing is left of a text that is read whole
abbrev pub rest_of : {X : Type 0} → Result X Reason → List Mark → List Mark
rest_of (Ok x) ms = []
rest_of (Err e) ms = ms

-- words with the given one in front, if it is one of them
abbrev pub led : Option (Bor (List ℕ)) → List Word → List Word
led None ws = ws
led (Some w) ws = led_by (Some w.now) ws
