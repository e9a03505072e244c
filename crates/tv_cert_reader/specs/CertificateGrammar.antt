-- The lines of certificates, and the first line at fault.
use Rattle.std.specs.Prelude.{◌≡◌, ◌⊎◌, ℕ, ◌+◌, ◌≤◌, ℤ, pos, Bool, true, false, List, [], ◌∷◌, ◌++◌, length, Option, Some, None, slice_get, ◌==◌}
use Rattle.tv_grammar.specs.Reads.{next}
use Rattle.tv_grammar.specs.Langs.{unit, then}
use Rattle.tv_grammar.specs.Exact.{IsText, StopsAt, Ended}
use Rattle.tv_grammar.specs.Faults.{Begins, NoneIn}
use Rattle.tv_lines.specs.Lines.{PlainLine, formed, formless, wide}
use Rattle.tv_lines.specs.declared.head.Head.{Head}
use Rattle.tv_lines.specs.declared.head.Head.TheVariants as heads
use Rattle.tv_cases.specs.LinearCases.{CaseSystem}
use Rattle.tv_cert.specs.Statements.{Statement}
use Rattle.tv_cert_reader.specs.declared.kind.LineKind.{LineKind}
use Rattle.tv_cert_reader.specs.declared.kind.LineKind.TheVariants.{Syntax, Wide, Deep, Shape}
use Rattle.tv_cert_reader.specs.Demands.{Outline, outlines_at, into_counts}
use Rattle.tv_cert_reader.specs.LineGrammar.{Grammar, line, guarded, natural, if_natural, header, last}
use Rattle.tv_cert_reader.specs.CoverGrammar.{cover, both}
use Rattle.tv_cert_reader.specs.NodeGrammar.{node}

-- what a certificate may be of: what its root shows where the property is proved, and where it is disproved
pub record Sides : Type 0 where
  pub proved : Statement
  pub denied : Statement

-- the line that says whether it is proved
abbrev pub said_line : Head → List ℤ → Option Bool
said_line heads.Proved [] = Some true
said_line heads.Disproved [] = Some false
said_line head zs = None

-- a place among the pieces at the start, and `n` values
abbrev pub at_line : ℕ → Head → List ℤ → Option ℕ
at_line n heads.At (k ∷ zs) = if_natural (natural k) (λ place. guarded (length zs == n) place)
at_line n head zs = None

-- the nodes of what is proved, and a cover of the start
abbrev pub proved : Bool → CaseSystem → Statement → Grammar (Unit {0})
proved over system s = then (node over system s) (λ os. both (cover over 128 system.variables 0 (into_counts None os system.start)) last)

-- the nodes up to the values, whose place is not looked at
abbrev pub at_values : Bool → CaseSystem → Statement → Grammar (List Outline × ℕ)
at_values over system s = then (node over system s) (λ os. then (line (at_line system.variables)) (λ k. unit (os, k)))

abbrev pub denied : Bool → CaseSystem → Statement → Grammar (Unit {0})
denied over system s = then (at_values over system s) (λ x. last)

abbrev pub said : Bool → CaseSystem → Sides → Bool → Grammar (Unit {0})
said over system sides true = proved over system sides.proved
said over system sides false = denied over system sides.denied

-- A certificate. Where it is disproved, the values may be said to lie in any piece, there or not. `over` lets a path have one split
-- more than it may.
abbrev pub certificate : Bool → CaseSystem → Sides → Grammar (Unit {0})
certificate over system sides = both header (then (line said_line) (said over system sides))

-- ---- the first line at fault

-- the kinds that a line can have, or the end
abbrev pub CanBe : LineKind → Option PlainLine → Type 0
CanBe k None = k ≡ Syntax
CanBe k (Some formless) = k ≡ Syntax
CanBe k (Some wide) = k ≡ Wide
CanBe Syntax (Some (formed head zs)) = ⊥
CanBe Wide (Some (formed head zs)) = ⊥
CanBe Deep (Some (formed head zs)) = head ≡ heads.Split
CanBe Shape (Some (formed head zs)) = Unit {0}

-- a line that is one split too many: a certificate would go on with it, if paths could have one more
abbrev pub IsOneTooMany : CaseSystem → Sides → LineKind → List PlainLine → List PlainLine → Type 0
IsOneTooMany system sides Deep before rest = (t : PlainLine) → next rest ≡ Some t → Begins (certificate true system sides) (before ++ t ∷ [])
IsOneTooMany system sides k before rest = NoneIn (certificate true system sides) before rest

-- No certificate begins with the lines up to the first of the rest, one does with those before, and they are not the whole of one. The
-- kind is the first that the line can have.
pub record Stops (system : CaseSystem) (sides : Sides) (ls rest : List PlainLine) (k : LineKind) : Type 0 where
  pub stops : StopsAt (certificate false system sides) ls rest
  pub unfinished : (d : (certificate false system sides).Of) → (certificate false system sides).text d [] ≡ stops.before → ⊥
  pub can_be : CanBe k (next rest)
  pub deep : IsOneTooMany system sides k stops.before rest

-- the next line says that the values lie in a piece that is not there
pub record NamesNoPiece (system : CaseSystem) (sides : Sides) (ls rest : List PlainLine) : Type 0 where
  pub nodes : (node false system sides.denied).Of
  pub place : ℕ
  pub values : List ℤ
  pub behind : List PlainLine
  pub rest_is : rest ≡ formed heads.At (pos place ∷ values) ∷ behind
  pub many : length values ≡ system.variables
  pub lines : ls ≡ formed heads.Header [] ∷ formed heads.Disproved [] ∷ (node false system sides.denied).text nodes rest
  pub none : slice_get (outlines_at ((node false system sides.denied).value nodes) system.start) place ≡ None

-- what is at fault at the first of the rest
pub data IsFault (system : CaseSystem) (sides : Sides) (ls rest : List PlainLine) : LineKind → Type 0 where
  goes_no_further : {k : LineKind} → Stops system sides ls rest k → IsFault system sides ls rest k
  behind_the_last : (t : PlainLine) → next rest ≡ Some t → Ended (certificate false system sides) Syntax Syntax ls rest → IsFault system sides ls rest Syntax
  no_piece : NamesNoPiece system sides ls rest → IsFault system sides ls rest Shape

-- The first line at fault has this number, from 1. The lines after one that names a piece that is not there may be at fault too.
pub record IsFirstFault (system : CaseSystem) (sides : Sides) (ls : List PlainLine) (k : LineKind) (number : ℕ) : Type 0 where
  pub rest : List PlainLine
  pub fault : IsFault system sides ls rest k
  pub first : (other : List PlainLine) → NamesNoPiece system sides ls other → length other ≤ length rest
  pub counted : number + length rest ≡ length ls + 1

-- every text has one first line at fault at most, and of one kind
abbrev pub HaveOneFault : CaseSystem → Sides → Type 0
HaveOneFault system sides = (ls : List PlainLine) (j k : LineKind) (m n : ℕ) → IsFirstFault system sides ls j m → IsFirstFault system sides ls k n → (j ≡ k) × (m ≡ n)

-- the lines of a certificate, whose values lie in a piece that is there
pub record IsRight (system : CaseSystem) (sides : Sides) (ls : List PlainLine) : Type 0 where
  pub text : IsText (certificate false system sides) ls tt
  pub there : (rest : List PlainLine) → NamesNoPiece system sides ls rest → ⊥

-- lines are right, or one of them is the first at fault
abbrev pub AreRightOrAtFault : CaseSystem → Sides → Type 0
AreRightOrAtFault system sides = (ls : List PlainLine) → IsRight system sides ls ⊎ ((k : LineKind) × ((number : ℕ) × IsFirstFault system sides ls k number))

-- right lines have none at fault
abbrev pub RightAreFaultless : CaseSystem → Sides → Type 0
RightAreFaultless system sides = (ls : List PlainLine) (k : LineKind) (number : ℕ) → IsRight system sides ls → IsFirstFault system sides ls k number → ⊥
