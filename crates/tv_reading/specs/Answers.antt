-- What the functions that read answer, of marks and of other tokens.
use Rattle.std.specs.Prelude.{◌≡◌, true, false, List, Result, Ok, Err}
use Rattle.tv_grammar.specs.Reads.{Fault, fault, next}
use Rattle.tv_grammar.specs.Langs.{Branch, headed_read, goes_at}
use Rattle.tv_reading.specs.Marks as marks
use Rattle.tv_reading.specs.Marks.{Kind}
use Rattle.tv_reading.specs.declared.fault.PartFault.{PartFault}
use Rattle.tv_reading.specs.declared.fault.PartFault.TheVariants as parts
use Rattle.tv_reading.specs.declared.reason.Reason.{Reason}
use Rattle.tv_reading.specs.declared.reason.Reason.TheVariants.{Syntax, Wide, Deep, NotLinear, TwoStarts, TooMany, UnknownName, Memory}
use Rattle.tv_reading.specs.declared.reason.Turn.{Turn}
use Rattle.tv_reading.specs.declared.reason.Turn.TheVariants.{On, Off}

-- the kind of a fault, where memory does not run out
abbrev pub kind_of : Reason → Kind
kind_of Syntax = marks.Syntax
kind_of Wide = marks.Wide
kind_of Deep = marks.Deep
kind_of NotLinear = marks.NotLinear
kind_of TwoStarts = marks.TwoStarts
kind_of TooMany = marks.TooMany
kind_of UnknownName = marks.UnknownName
kind_of Memory = marks.Syntax

-- the reason that a fault gives
abbrev pub reason_of : PartFault → Reason
reason_of (parts.Syntax at) = Syntax
reason_of (parts.Wide at) = Wide
reason_of (parts.Deep at) = Deep
reason_of (parts.NotLinear at) = NotLinear
reason_of (parts.TooMany at) = TooMany
reason_of (parts.UnknownName at) = UnknownName
reason_of parts.Memory = Memory

abbrev pub Unless : Reason → Type 0 → Type 0
Unless Memory p = Unit {0}
Unless _ p = p

-- What is answered, seen by view, and what is left are what the grammar reads, or memory runs out.
abbrev pub Gives : {T X Y : Type 0} → (X → Y) → Result X Reason → List T → Result (Y × List T) (Fault T Kind) → Type 0
Gives view (Ok x) left read = read ≡ Ok (view x, left)
Gives view (Err e) left read = Unless e (read ≡ fault (kind_of e) left)

-- One turn of a loop at these tokens, in the state s.
abbrev pub Turned : {T X S : Type 0} → (X → S) → Result (Turn X) Reason → List T → (S → T → Branch T Kind S) → S → List T → Type 0
Turned view (Ok (On x)) left cases s ts = (goes_at (cases s) (next ts) ≡ true) × (headed_read marks.Syntax (cases s) ts ≡ Ok (view x, left))
Turned view (Ok (Off x)) left cases s ts = (goes_at (cases s) (next ts) ≡ false) × (view x ≡ s) × (left ≡ ts)
Turned view (Err e) left cases s ts = Unless e ((goes_at (cases s) (next ts) ≡ true) × (headed_read marks.Syntax (cases s) ts ≡ fault (kind_of e) left))
