-- What is written of a run that never ends.
use Rattle.std.specs.Prelude.{◌≡◌, ℕ, suc, List, [], ◌∷◌, ◌++◌, length, map, get_or, Result, Ok, Err, codes, decimal, Vec}
use Rattle.std.specs.Fmt.{signed_decimal}
use Rattle.std.specs.Global.{Global}
use Rattle.tv_program.specs.Words.{Word}
use Rattle.tv_program.specs.Systems.{System}
use Rattle.tv_formula.specs.Formulas.{property_of}
use Rattle.tv_formula.specs.Properties.{term}
use Rattle.tv_cases.specs.LinearCases.{CaseSystem}
use Rattle.tv_cert.specs.declared.claim.Claim.{Claim}
use Rattle.tv_cert.specs.declared.node.Node.{Node}
use Rattle.tv_cert.specs.declared.node.Verdict.{Verdict}
use Rattle.tv_cert.specs.declared.node.Verdict.TheVariants as verdicts
use Rattle.tv_shape.specs.declared.certificate.Certificate.{Certificate}
use Rattle.tv_trace.specs.declared.shown.Shown.{Shown}
use Rattle.tv_trace.specs.declared.shown.TraceFault.{TraceFault}
use Rattle.tv_trace.specs.declared.shown.TraceFault.TheVariants.{Wide, Memory}
use Rattle.tv_trace.specs.Tracing.{IsTraceOf}
use Rattle.tv_top.specs.CauseLines.{spaced}

-- the line of a state: its number, the label of its location, and its values
abbrev pub state_line : List Word → ℕ → Shown → List ℕ
state_line labels number s = codes "trace " ++ (decimal number ++ (codes " " ++ (get_or labels s.location [] ++ spaced (map signed_decimal s.values.items))))

-- the lines of states, numbered from one on
abbrev pub state_lines : List Word → ℕ → List Shown → List ℕ
state_lines labels number [] = []
state_lines labels number (s ∷ ss) = state_line labels number s ++ state_lines labels (suc number) ss

-- the line after the last state where a number of the next step is too wide
abbrev pub wide_line : ℕ → List ℕ
wide_line number = codes "trace " ++ (decimal number ++ (codes " wide" ++ 10 ∷ []))

-- the text shows the states of the result
abbrev pub IsTraceText : List Word → Result (Vec Shown Global) TraceFault → List ℕ → Type 0
IsTraceText labels (Ok shown) text = text ≡ state_lines labels 0 shown.items
IsTraceText labels (Err (Wide shown)) text = text ≡ state_lines labels 0 shown.items ++ wide_line (length shown.items)
IsTraceText labels (Err Memory) text = ⊥

-- the text shows the first states of the run that a certificate with this verdict leads along, and nothing where the property is proved
abbrev pub ShowsRun : System → CaseSystem → Node → Verdict → ℕ → List ℕ → Type 0
ShowsRun p about root (verdicts.Proved start) count text = text ≡ []
ShowsRun p about root (verdicts.Disproved k values) count text =
    (result : _) × IsTraceOf p about root k values.items count result × IsTraceText p.locations result text

-- where it is claimed that all runs end, and for no other claim, states are written
pub record IsRunText (p : System) (about : CaseSystem) (claim : Claim) (c : Certificate) (count : ℕ) (text : List ℕ) : Type 0 where
  pub shown : property_of claim.proved ≡ term → ShowsRun p about c.root c.verdict count text
  pub otherwise : (property_of claim.proved ≡ term → ⊥) → text ≡ []
