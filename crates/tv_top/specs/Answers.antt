-- What a run writes, and how it ends.
use Rattle.std.specs.declared.alloc.AllocError.{AllocError}
use Rattle.std.specs.Prelude.{Result, Ok, Err, ℕ, ◌+◌, ◌/◌, ℤ, List, [], ◌∷◌, ◌++◌, codes, decimal}
use Rattle.std.specs.Fmt.{signed_decimal}
use Rattle.tv_program.specs.Words.{Word}
use Rattle.tv_cert.specs.declared.node.Kind.{Kind}
use Rattle.tv_cert.specs.declared.node.Kind.TheVariants as kinds
use Rattle.tv_cases.specs.declared.case.CaseFault.{CaseFault}
use Rattle.tv_cases.specs.declared.case.CaseFault.TheVariants as cases
use Rattle.tv_reader.specs.declared.fault.What.{What}
use Rattle.tv_reader.specs.declared.fault.What.TheVariants.{Variables, Locations, Edges, Draws}
use Rattle.tv_reader.specs.declared.fault.ReadFault.{ReadFault as ProgramFault}
use Rattle.tv_reader.specs.declared.fault.ReadFault.TheVariants as faults
use Rattle.tv_formula_reader.specs.declared.fault.FormulaFault.{FormulaFault}
use Rattle.tv_formula_reader.specs.declared.fault.FormulaFault.TheVariants as formulas
use Rattle.tv_farkas.specs.declared.fault.CoverFault.{CoverFault}
use Rattle.tv_farkas.specs.declared.fault.CoverFault.TheVariants as covers
use Rattle.tv_rank.specs.declared.name.Name.{Name}
use Rattle.tv_rank.specs.declared.name.Name.TheVariants.{Rows}
use Rattle.tv_rank.specs.declared.name.Name.TheVariants as systems
use Rattle.tv_nested.specs.declared.fault.NestName.{NestName}
use Rattle.tv_nested.specs.declared.fault.NestName.TheVariants as nests
use Rattle.tv_nested.specs.declared.fault.NestFault.{NestFault}
use Rattle.tv_nested.specs.declared.fault.NestFault.TheVariants as nested
use Rattle.tv_top.specs.declared.named_system.NamedSystem.{NamedSystem}
use Rattle.tv_top.specs.declared.named_system.NamedSystem.TheVariants.{Searched, Nested}
use Rattle.tv_points.specs.declared.fault.PointFault.{PointFault}
use Rattle.tv_points.specs.declared.fault.PointFault.TheVariants as points
use Rattle.tv_check_text.specs.declared.text.TextFailing.{TextFailing}
use Rattle.tv_check_text.specs.declared.text.TextFailing.TheVariants as certs
use Rattle.tv_interleave.specs.declared.fault.InterFault.{InterFault}
use Rattle.tv_interleave.specs.declared.fault.InterFault.TheVariants as joint
use Rattle.tv_interleave.specs.declared.texts.TextFault.{TextFault}
use Rattle.tv_interleave.specs.declared.texts.TextFault.TheVariants as texts
use Rattle.tv_finitely.specs.declared.split_program.SplitFault.{SplitFault}
use Rattle.tv_finitely.specs.declared.split_program.SplitFault.TheVariants as splits
use Rattle.tv_top.specs.declared.answer.Answer.{Answer}
use Rattle.tv_top.specs.declared.answer.Answer.TheVariants.{Proved, Disproved, Obligation, CertificateLine, Words, TooLong, Text, Property, Condition, WideEdge, TooManyInEdge, Unknown, ReadFault, Memory}
use Rattle.tv_top.specs.declared.cause.Cause.{Cause}
use Rattle.tv_top.specs.declared.cause.Cause.TheVariants.{Unsolved, Spent, Composed}
use Rattle.tv_top.specs.declared.status.Status.{Status}
use Rattle.tv_top.specs.declared.status.Status.TheVariants as statuses
use Rattle.tv_top.specs.declared.system_fault.SystemFault.TheVariants as kept
use Rattle.tv_simplex.specs.declared.fault.SolveFault.{SolveFault}
use Rattle.tv_simplex.specs.declared.fault.SolveFault.TheVariants as solving
use Rattle.tv_top.specs.CauseLines.{cause_line, detail_line}

-- the word of a kind of obligations
abbrev pub kind_word : Kind → List ℕ
kind_word kinds.Atom = codes "atom"
kind_word kinds.Child = codes "child"
kind_word kinds.Done = codes "done"
kind_word kinds.Hold = codes "hold"
kind_word kinds.Successor = codes "successor"
kind_word kinds.Step = codes "step"
kind_word kinds.Choice = codes "choice"
kind_word kinds.Root = codes "root"

-- the line for an obligation that is not met
abbrev pub obligation_line : ℕ → ℕ → Kind → List ℕ
obligation_line number node kind = codes "Certificate refused obligation " ++ (decimal number ++ (codes " node " ++ (decimal node ++ (codes " " ++ (kind_word kind ++ 10 ∷ [])))))

abbrev pub what_word : What → List ℕ
what_word Variables = codes "variables"
what_word Locations = codes "locations"
what_word Edges = codes "edges"
what_word Draws = codes "draws"

-- the line for a fault at a place
abbrev pub placed_line : List ℕ → ℕ → ℕ → List ℕ
placed_line cause line column = codes "Refused text " ++ (cause ++ (codes " line " ++ (decimal line ++ (codes " column " ++ (decimal column ++ 10 ∷ [])))))

abbrev pub too_many_line : What → ℕ → ℕ → List ℕ
too_many_line what line column = codes "Refused text too many " ++ (what_word what ++ (codes " line " ++ (decimal line ++ (codes " column " ++ (decimal column ++ 10 ∷ [])))))

-- the line for the first fault of a text of one program
abbrev pub program_line : ProgramFault → List ℕ
program_line (faults.Syntax line column) = placed_line (codes "syntax") line column
program_line faults.NoStart = codes "Refused text no start" ++ 10 ∷ []
program_line (faults.TwoStarts line column) = placed_line (codes "two starts") line column
program_line (faults.NotLinear line column) = placed_line (codes "not linear") line column
program_line (faults.Wide line column) = placed_line (codes "wide") line column
program_line (faults.TooMany what line column) = too_many_line what line column
program_line (faults.Deep line column) = placed_line (codes "deep") line column
program_line faults.Memory = []

-- the line with a number at its end
abbrev pub counted_line : List ℕ → ℕ → List ℕ
counted_line what count = codes "Refused text " ++ (what ++ (codes " " ++ (decimal count ++ 10 ∷ [])))

-- the line for the first fault of a text of several processes
abbrev pub processes_line : InterFault → List ℕ
processes_line (joint.Syntax line column) = placed_line (codes "syntax") line column
processes_line (joint.Processes count) = counted_line (codes "processes") count
processes_line (joint.Part part fault) = program_line fault
processes_line (joint.Label line column) = placed_line (codes "label") line column
processes_line (joint.Variables count) = counted_line (codes "variables") count
processes_line (joint.Locations count) = counted_line (codes "product locations") count
processes_line (joint.Edges count) = counted_line (codes "product edges") count
processes_line joint.Memory = []

-- the line for the first fault of a text
abbrev pub text_line : TextFault → List ℕ
text_line (texts.Program fault) = program_line fault
text_line (texts.Processes fault) = processes_line fault
text_line texts.Memory = []

-- the line for a fault of a formula at a byte, counted from 0; columns count from 1
abbrev pub column_line : List ℕ → ℕ → List ℕ
column_line cause at = codes "Refused property " ++ (cause ++ (codes " column " ++ (decimal (at + 1) ++ 10 ∷ [])))

-- the line where the words name no property
abbrev pub property_line : FormulaFault → List ℕ
property_line (formulas.Syntax at) = column_line (codes "syntax") at
property_line (formulas.UnknownName at) = column_line (codes "unknown name") at
property_line (formulas.NotLinear at) = column_line (codes "not linear") at
property_line (formulas.Wide at) = column_line (codes "wide") at
property_line (formulas.Deep at) = column_line (codes "deep") at
property_line formulas.Long = codes "Refused property too long" ++ 10 ∷ []
property_line formulas.Memory = []

-- the line with the number of an edge of the program, each edge of which has two copies side by side
abbrev pub edge_of_copy : ℕ → List ℕ
edge_of_copy copy = codes "Refused property cases edge " ++ (decimal (copy / 2) ++ 10 ∷ [])

-- the line where the program with the copies has no linear cases
abbrev pub doubled_line : CaseFault → List ℕ
doubled_line (cases.Wide copy) = edge_of_copy copy
doubled_line (cases.TooMany copy) = edge_of_copy copy
doubled_line cases.Memory = []

-- the line where the program is not split by the property of states
abbrev pub condition_line : SplitFault → List ℕ
condition_line splits.Temporal = codes "Refused property temporal" ++ 10 ∷ []
condition_line (splits.Edges count) = codes "Refused property edges " ++ (decimal count ++ 10 ∷ [])
condition_line splits.Deep = codes "Refused property deep" ++ 10 ∷ []
condition_line (splits.Case fault) = doubled_line fault
condition_line splits.Memory = []

-- the line of a variable: its name and its value
abbrev pub value_line : Word → ℤ → List ℕ
value_line name value = name ++ (codes " = " ++ (signed_decimal value ++ 10 ∷ []))

-- the lines of variables in order, each with the value at its place
abbrev pub value_lines : List Word → List ℤ → List ℕ
value_lines [] values = []
value_lines (name ∷ names) [] = []
value_lines (name ∷ names) (value ∷ values) = value_line name value ++ value_lines names values

-- the first line of an answer, with its LF; nothing where nothing is written
abbrev pub plain_line : Answer → List ℕ
plain_line (Proved certificate) = codes "Proved" ++ 10 ∷ []
plain_line (Disproved at certificate) = codes "Disproved" ++ 10 ∷ []
plain_line (Obligation f) = obligation_line f.number f.node f.kind
plain_line (CertificateLine line) = codes "Certificate refused line " ++ (decimal line ++ 10 ∷ [])
plain_line Words = codes "Refused words" ++ 10 ∷ []
plain_line TooLong = codes "Refused text too long" ++ 10 ∷ []
plain_line (Text fault) = text_line fault
plain_line (Property fault) = property_line fault
plain_line (Condition fault) = condition_line fault
plain_line (WideEdge edge) = codes "Refused text wide edge " ++ (decimal edge ++ 10 ∷ [])
plain_line (TooManyInEdge edge) = codes "Refused text too many edge " ++ (decimal edge ++ 10 ∷ [])
plain_line (Unknown cause) = cause_line cause
plain_line ReadFault = []
plain_line Memory = []

-- the lines after the first: those of the state at which the property fails, of a certificate, or of the cause of an unknown answer
abbrev pub further_lines : Answer → List ℕ
further_lines (Proved certificate) = certificate.items
further_lines (Disproved at certificate) = value_lines at.names at.values.items ++ certificate.items
further_lines (Unknown cause) = detail_line cause
further_lines answer = []

-- all lines of an answer
abbrev pub lines_of : Answer → List ℕ
lines_of answer = plain_line answer ++ further_lines answer

-- the status of an answer that was written
abbrev pub status_of : Answer → Status
status_of (Proved certificate) = statuses.Proved
status_of (Disproved at certificate) = statuses.Disproved
status_of (Obligation f) = statuses.CertificateRefused
status_of (CertificateLine line) = statuses.CertificateRefused
status_of Words = statuses.Refused
status_of TooLong = statuses.Refused
status_of (Text fault) = statuses.Refused
status_of (Property fault) = statuses.Refused
status_of (Condition fault) = statuses.Refused
status_of (WideEdge edge) = statuses.Refused
status_of (TooManyInEdge edge) = statuses.Refused
status_of (Unknown cause) = statuses.Unknown
status_of ReadFault = statuses.ReadFault
status_of Memory = statuses.Memory

-- what the program ends with
abbrev pub status_number : Status → ℕ
status_number statuses.Proved = 0
status_number statuses.Disproved = 1
status_number statuses.Unknown = 2
status_number statuses.Refused = 3
status_number statuses.ReadFault = 4
status_number statuses.WriteFault = 5
status_number statuses.Memory = 6
status_number statuses.CertificateRefused = 7

-- the answer for a program that has no linear cases
abbrev pub without_cases : CaseFault → Answer
without_cases (cases.Wide edge) = WideEdge edge
without_cases (cases.TooMany edge) = TooManyInEdge edge
without_cases cases.Memory = Memory

-- the answer where the words name no property
abbrev pub without_property : FormulaFault → Answer
without_property (formulas.Syntax at) = Property (formulas.Syntax at)
without_property (formulas.UnknownName at) = Property (formulas.UnknownName at)
without_property (formulas.NotLinear at) = Property (formulas.NotLinear at)
without_property (formulas.Wide at) = Property (formulas.Wide at)
without_property (formulas.Deep at) = Property (formulas.Deep at)
without_property formulas.Long = Property formulas.Long
without_property formulas.Memory = Memory

-- the answer where a linear system was not settled: why, and where memory ran out, that alone
abbrev pub unsettled : NamedSystem → SolveFault → Answer
unsettled system (solving.Width basis row column) = Unknown (Unsolved system (kept.Width basis row column))
unsettled system (solving.Scale basis) = Unknown (Unsolved system (kept.Scale basis))
unsettled system (solving.Pivots bases) = Unknown (Unsolved system (kept.Pivots bases))
unsettled system (solving.Size rows columns) = Unknown (Unsolved system (kept.Size rows columns))
unsettled system solving.Memory = Memory

abbrev pub unsolved : Name → SolveFault → Answer
unsolved system fault = unsettled (Searched system) fault

-- the name of a system of the search for nested terms
abbrev pub nest_system : NestName → NamedSystem
nest_system (nests.Empty k) = Searched (systems.Empty k)
nest_system (nests.Rank component round falling) = Searched (systems.Rank component round falling)
nest_system (nests.Nest component depth) = Nested component depth

-- the answer where a question of integer points was not settled
abbrev pub uncovered : CoverFault → Answer
uncovered (covers.Splits path) = Unknown (Spent path)
uncovered (covers.Solve rows fault) = unsolved (Rows rows) fault
uncovered (covers.Wide column) = Unknown (Composed column)
uncovered covers.Memory = Memory

-- the answer where it is not known whether terms are nested
abbrev pub unnested : NestFault → Answer
unnested (nested.Solve system fault) = unsettled (nest_system system) fault
unnested (nested.Cover fault) = uncovered fault
unnested nested.Memory = Memory

-- the answer with a cause, unless memory runs out
abbrev pub unknown : Result Cause AllocError → Answer
unknown (Ok cause) = Unknown cause
unknown (Err e) = Memory

-- the answer where a run that was found has no certificate
abbrev pub too_wide : PointFault → Answer
too_wide (points.Wide column) = Unknown (Composed column)
too_wide points.Memory = Memory

-- the answer for a text that is not accepted as a certificate
abbrev pub without_certificate : TextFailing → Answer
without_certificate (certs.Line kind line) = CertificateLine line
without_certificate (certs.Obligation failing) = Obligation failing
without_certificate certs.Memory = Memory
