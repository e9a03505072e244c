-- What it means to read from the front of the lines that are left.
use Rattle.std.specs.Prelude.{◌≡◌, ℕ, ◌+◌, ℤ, List, [], ◌∷◌, ◌++◌, length, Result, Ok, Err}
use Rattle.std.specs.Global.{Vec}
use Rattle.tv_grammar.specs.Reads.{fault}
use Rattle.tv_lines.specs.Lines.{PlainLine, formed, formless, wide}
use Rattle.tv_lines.specs.declared.head.Head.{Head}
use Rattle.tv_cert_reader.specs.declared.kind.LineKind.{LineKind}
use Rattle.tv_cert_reader.specs.declared.kind.LineKind.TheVariants.{Syntax, Wide}
use Rattle.tv_cert_reader.specs.LineGrammar.{Grammar}
use Rattle.tv_cert_reader.specs.declared.cursor.Cursor.{Cursor}
use Rattle.tv_cert_reader.specs.declared.failure.Failure.{Failure}
use Rattle.tv_cert_reader.specs.declared.failure.Failure.TheVariants.{Fault, Memory}

-- the number of the last line
abbrev pub last_number : Cursor → ℕ
last_number c = c.taken + length c.lines

-- these lines are taken off
pub record Takes (front : List PlainLine) (old new : Cursor) : Type 0 where
  pub lines : old.lines ≡ front ++ new.lines
  pub last : last_number new ≡ last_number old

-- the grammar is not read further than the line with this number
pub record FaultAt {V : Type 0} (g : Grammar V) (c : Cursor) (k : LineKind) (line : ℕ) : Type 0 where
  pub rest : List PlainLine
  pub read : g.read c.lines ≡ fault k rest
  pub counted : line + length rest ≡ last_number c + 1

abbrev pub FailsBy : {V : Type 0} → Grammar V → Cursor → Failure → Type 0
FailsBy g c (Fault k line) = FaultAt g c k line
FailsBy g c Memory = Unit {0}

-- A thing of some kind was read, and these are its lines; or the grammar is not read, or memory did not do.
abbrev pub Reads : {X Y V : Type 0} → (X → Y) → (Y → Type 0) → (Y → List PlainLine) → Grammar V → Cursor → Cursor → Result X Failure → Type 0
Reads seen Has lines g old new (Ok x) = Has (seen x) × Takes (lines (seen x)) old new
Reads seen Has lines g old new (Err f) = FailsBy g old f

-- what is at fault in the next line whatever is wanted
abbrev pub IsLineFault : LineKind → List PlainLine → Type 0
IsLineFault k [] = k ≡ Syntax
IsLineFault k (formless ∷ rest) = k ≡ Syntax
IsLineFault k (wide ∷ rest) = k ≡ Wide
IsLineFault k (formed head zs ∷ rest) = ⊥

abbrev pub IsFailedLine : Cursor → Failure → Type 0
IsFailedLine c (Fault k line) = IsLineFault k c.lines × (line ≡ c.taken + 1)
IsFailedLine c Memory = Unit {0}

-- the next line is taken off, which has a head and numbers
abbrev pub TakesLine : Cursor → Cursor → Result (Head × Vec ℤ) Failure → Type 0
TakesLine old new (Ok x) = Takes (formed x.0 x.1.items ∷ []) old new × (new.taken ≡ old.taken + 1)
TakesLine old new (Err f) = IsFailedLine old f
