-- The first fault of a text that is no program.
use Rattle.std.specs.Prelude.{◌≡◌, ℕ, Bool, true, false, List, [], ◌∷◌, ◌++◌, length, drop, IsSome, Result, Ok, Err}
use Rattle.tv_language.specs.declared.token.TokenKind.{TokenKind}
use Rattle.tv_language.specs.declared.token.TokenKind.TheVariants.{From, Nondet}
use Rattle.tv_language.specs.declared.token.Token.{Token}
use Rattle.tv_language.specs.Tokens.{IsTokens}
use Rattle.tv_program.specs.declared.program.Program.{Program}
use Rattle.tv_program.specs.Systems.{System, IsLimited}
use Rattle.tv_program.specs.Programs.{system_of}
use Rattle.tv_language.specs.Symbols.{is_colon}
use Rattle.tv_grammar.specs.Exact.{IsText}
use Rattle.tv_reading.specs.Marks as marks
use Rattle.tv_reading.specs.Marks.{Kind}
use Rattle.tv_reading.specs.SumGrammar.{every}
use Rattle.tv_reading.specs.Refusals.{Refuses}
use Rattle.tv_reader.specs.declared.fault.What.{What}
use Rattle.tv_reader.specs.declared.fault.What.TheVariants.{Variables, Locations, Edges, Draws}
use Rattle.tv_reader.specs.declared.fault.ReadFault.{ReadFault}
use Rattle.tv_reader.specs.declared.fault.ReadFault.TheVariants.{Syntax, NoStart, TwoStarts, NotLinear, Wide, TooMany, Deep, Memory}
use Rattle.tv_reading.specs.declared.reason.Reason.{Reason}
use Rattle.tv_reading.specs.declared.reason.Reason.TheVariants as reasons
use Rattle.tv_reader.specs.declared.items.ItemsRead.{ItemsRead}
use Rattle.tv_reader.specs.declared.reader.Reader.{Reader}
use Rattle.tv_program.specs.Views.{transitions}
use Rattle.tv_reader.specs.ProgramMarks.{program_marks}
use Rattle.tv_reader.specs.ProgramGrammar.{Items, program_at}
use Rattle.tv_reader.specs.Places.{line_of, column_of}

-- whether the last of these tokens is a colon
abbrev pub ends_with_colon : Bool → List Token → Bool
ends_with_colon colon [] = colon
ends_with_colon colon (t ∷ ts) = ends_with_colon (is_colon t.kind) ts

-- what a token brings in, given whether it comes right after a colon
abbrev pub brought_in : Bool → TokenKind → What
brought_in true kind = Locations
brought_in false From = Edges
brought_in false Nondet = Draws
brought_in false kind = Variables

-- The first fault of the text is of this kind and stands in this line and column. It is the token `here`: no program begins with the
-- tokens up to it, also where only this kind of fault and those before it in the order are faults; where only the kinds before it
-- are, one does (Refuses says this).
pub record HasFault (text : List ℕ) (kind : Kind) (line column : ℕ) : Type 0 where
  pub before : List Token
  pub here : Token
  pub behind : List Token
  pub scanned : IsTokens 0 text (before ++ here ∷ behind)
  pub refused : Refuses program_at 63 kind (program_marks text (before ++ here ∷ behind)) (drop (length before) (program_marks text (before ++ here ∷ behind)))
  pub is_line : line ≡ line_of text here.at
  pub is_column : column ≡ column_of text here.at

-- There are items up to the end of the text, and no START among them.
pub record HasNoStart (text : List ℕ) : Type 0 where
  pub tokens : List Token
  pub scanned : IsTokens 0 text tokens
  pub items : Items
  pub are_items : IsText (program_at every 63) (program_marks text tokens) items
  pub none : items.starts ≡ []

-- The fault is the first one of the text; want of memory is none.
abbrev pub IsFirstFault : List ℕ → ReadFault → Type 0
IsFirstFault text (Syntax line column) = HasFault text marks.Syntax line column
IsFirstFault text NoStart = HasNoStart text
IsFirstFault text (TwoStarts line column) = HasFault text marks.TwoStarts line column
IsFirstFault text (NotLinear line column) = HasFault text marks.NotLinear line column
IsFirstFault text (Wide line column) = HasFault text marks.Wide line column
IsFirstFault text (TooMany what line column) = (fault : HasFault text marks.TooMany line column) × (what ≡ brought_in (ends_with_colon false fault.before) fault.here.kind)
IsFirstFault text (Deep line column) = HasFault text marks.Deep line column
IsFirstFault text Memory = ⊥

-- the fault is the first one of the text, or memory runs out
abbrev pub IsRefused : List ℕ → ReadFault → Type 0
IsRefused text Memory = Unit {0}
IsRefused text fault = IsFirstFault text fault

-- what is read is this program, or memory runs out
abbrev pub IsReadAs : System → Result Program ReadFault → Type 0
IsReadAs p (Ok program) = system_of program ≡ p
IsReadAs p (Err Memory) = Unit {0}
IsReadAs p (Err fault) = ⊥

-- ---- the answer for what was read

-- the refusal for a reason at this place; in a program no name is unknown
abbrev pub IsTold : Reason → What → ℕ → ℕ → ReadFault → Type 0
IsTold reasons.Syntax what line column f = f ≡ Syntax line column
IsTold reasons.Wide what line column f = f ≡ Wide line column
IsTold reasons.Deep what line column f = f ≡ Deep line column
IsTold reasons.NotLinear what line column f = f ≡ NotLinear line column
IsTold reasons.TwoStarts what line column f = f ≡ TwoStarts line column
IsTold reasons.TooMany what line column f = f ≡ TooMany what line column
IsTold reasons.UnknownName what line column f = ⊥
IsTold reasons.Memory what line column f = f ≡ Memory

-- the program of these items; one of the items is START
pub record IsMade (r : Reader) (x : ItemsRead) (p : Program) : Type 0 where
  pub started : IsSome x.start
  pub same : system_of p ≡ record { variables = r.reading.names; locations = r.labels; start = 0; edges = transitions x.edges.items }
  pub limited : IsLimited (system_of p)
