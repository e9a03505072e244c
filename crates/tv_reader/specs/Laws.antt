-- What holds of every text: it is that of one program, or it has one first fault.
use Rattle.std.specs.Prelude.{◌≡◌, ℕ, List}
use Rattle.tv_program.specs.Systems.{System}
use Rattle.tv_language.specs.Programs.{IsProgramText}
use Rattle.tv_reader.specs.declared.fault.ReadFault.{ReadFault}
use Rattle.tv_reader.specs.FirstFaults.{IsFirstFault}

-- it is the text of one program at most
abbrev pub HasOneProgram : List ℕ → Type 0
HasOneProgram text = (p q : System) → IsProgramText text p → IsProgramText text q → p ≡ q

-- it has one first fault at most
abbrev pub HasOneFirstFault : List ℕ → Type 0
HasOneFirstFault text = (f g : ReadFault) → IsFirstFault text f → IsFirstFault text g → f ≡ g

-- where it has a first fault, it is the text of no program
abbrev pub IsFaultlessIfProgram : List ℕ → Type 0
IsFaultlessIfProgram text = (p : System) (f : ReadFault) → IsProgramText text p → IsFirstFault text f → ⊥
