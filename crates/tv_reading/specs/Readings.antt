-- What a reading is, and what it answers.
use Rattle.std.specs.Prelude.{◌≡◌, ℕ, ◌+◌, ◌-◌, ◌≤◌, Bool, List, length, drop, Option, Some, None, nat_lt, Result, Ok, Err, cond}
use Rattle.tv_language.specs.declared.token.TokenKind.TheVariants.{Name, End}
use Rattle.tv_language.specs.declared.token.Token.{Token}
use Rattle.tv_program.specs.Words.{Word}
use Rattle.tv_grammar.specs.Reads.{Fault, fault}
use Rattle.tv_grammar.specs.Langs.{unit, stop, go, headed}
use Rattle.tv_language.specs.Symbols.{name}
use Rattle.tv_reading.specs.Marks as marks
use Rattle.tv_reading.specs.Marks.{Kind, Mark, plain, refused, Stand, left, first}
use Rattle.tv_reading.specs.SumGrammar.{Grammar, Behind}
use Rattle.tv_reading.specs.Answers as answers
use Rattle.tv_reading.specs.declared.reason.Reason.{Reason}
use Rattle.tv_reading.specs.declared.reason.Reason.TheVariants as reasons
use Rattle.tv_reading.specs.declared.fault.PartFault.{PartFault}
use Rattle.tv_reading.specs.declared.fault.PartFault.TheVariants.{Syntax, Wide, Deep, NotLinear, TooMany, UnknownName, Memory}

-- ---- where it stands

-- at the front of a text
abbrev pub begun : List ℕ → List Token → List Word → Bool → Stand
begun text tokens names grows = record { text = text; tokens = tokens; grows = grows; level = 0; at = 0; names = names; draws = 0 }

abbrev pub moved : Stand → ℕ → ℕ → Stand
moved s at level = record { text = s.text; tokens = s.tokens; grows = s.grows; level = level; at = at; names = s.names; draws = s.draws }

-- after one more token, whose name is not counted; the last token stays
abbrev pub taken : Stand → Stand
taken s = moved s (cond (nat_lt s.at (length s.tokens - 1)) (s.at + 1) s.at) s.level

-- at the front of an edge
abbrev pub at_edge : Stand → Stand
at_edge s = record { text = s.text; tokens = s.tokens; grows = s.grows; level = s.level; at = s.at; names = s.names; draws = 0 }

abbrev pub or_end : Option Token → Token
or_end None = record { at = 0; len = 0; kind = End }
or_end (Some t) = t

-- the next token; a list of tokens has one at its end
abbrev pub token_at : Stand → Token
token_at s = or_end (first (drop s.at s.tokens))

-- at most 512 names and 64 draws
abbrev pub IsWithin : Stand → Type 0
IsWithin s = (length s.names ≤ 512) × (s.draws ≤ 64)

-- What stays the same where tokens are read: the text and how it is read, and the limits.
pub record IsKept (s u : Stand) : Type 0 where
  pub text : u.text ≡ s.text
  pub tokens : u.tokens ≡ s.tokens
  pub grows : u.grows ≡ s.grows
  pub level : u.level ≡ s.level
  pub further : s.at ≤ u.at
  pub inside : s.at ≤ length s.tokens → u.at ≤ length u.tokens
  pub within : IsWithin s → IsWithin u

-- how many levels may be opened; the bracket of an assumption is open around a condition where names are added
abbrev pub sum_levels : Stand → ℕ
sum_levels s = 64 - s.level

abbrev pub condition_levels : Stand → ℕ
condition_levels s = cond s.grows 63 (64 - s.level)

-- ---- what it answers

-- the kind of a fault, where memory does not run out
abbrev pub kind_of : PartFault → Kind
kind_of f = answers.kind_of (answers.reason_of f)

-- a fault of this kind at this place
abbrev pub IsFault : PartFault → Kind → ℕ → Type 0
IsFault (Syntax at) k place = (k ≡ marks.Syntax) × (at ≡ place)
IsFault (Wide at) k place = (k ≡ marks.Wide) × (at ≡ place)
IsFault (Deep at) k place = (k ≡ marks.Deep) × (at ≡ place)
IsFault (NotLinear at) k place = (k ≡ marks.NotLinear) × (at ≡ place)
IsFault (TooMany at) k place = (k ≡ marks.TooMany) × (at ≡ place)
IsFault (UnknownName at) k place = (k ≡ marks.UnknownName) × (at ≡ place)
IsFault Memory k place = ⊥

-- the fault for a reason
abbrev pub IsTold : Reason → PartFault → ℕ → Type 0
IsTold reasons.Memory f place = f ≡ Memory
IsTold reason f place = IsFault f (answers.kind_of reason) place

-- What is answered, seen by view, and where reading then stands are what the grammar reads, or memory runs out. A fault has the
-- place of the token at which reading then stands.
abbrev pub IsRead : {X Y : Type 0} → (X → Y) → Result X PartFault → Stand → Result (Y × List Mark) (Fault Mark Kind) → Type 0
IsRead view (Ok x) now read = read ≡ Ok (view x, left now)
IsRead view (Err Memory) now read = Unit {0}
IsRead view (Err e) now read = (read ≡ fault (kind_of e) (left now)) × IsFault e (kind_of e) (token_at now).at

-- a refusal for which memory is not the reason has the place of the token at which reading then stands
abbrev pub IsPlaced : {X : Type 0} → Result X PartFault → Stand → Type 0
IsPlaced (Ok x) now = Unit {0}
IsPlaced (Err Memory) now = Unit {0}
IsPlaced (Err e) now = IsFault e (kind_of e) (token_at now).at

-- unless memory runs out, there is a value, which has P
abbrev pub IsGiven : {X : Type 0} → Result X PartFault → (X → Type 0) → Type 0
IsGiven (Ok x) P = P x
IsGiven (Err Memory) P = Unit {0}
IsGiven (Err e) P = ⊥

-- the kind of a refusal for which memory is not the reason has P
abbrev pub OnRefusal : {X : Type 0} → Result X PartFault → (Kind → Type 0) → Type 0
OnRefusal (Ok x) P = Unit {0}
OnRefusal (Err Memory) P = Unit {0}
OnRefusal (Err e) P = P (kind_of e)

-- the grammar of one name
abbrev pub name_cases : Mark → Behind ℕ
name_cases (plain (name v)) = go (unit v)
name_cases (refused k Name) = stop k
name_cases _ = stop marks.Syntax

abbrev pub one_name : Grammar ℕ
one_name = headed marks.Syntax name_cases
