-- The one spelling of programs: the start, and then the edges in order, each part on a line of its own.
use Rattle.std.specs.Prelude.{ℕ, List, [], ◌∷◌, ◌++◌, codes, slice_index_or}
use Rattle.tv_program.specs.Words.{Word}
use Rattle.tv_program.specs.Trees.{Instruction, assume, assign, Transition}
use Rattle.tv_program.specs.Systems.{System}
use Rattle.tv_spelling.specs.Sums.{expression_text}
use Rattle.tv_spelling.specs.Conditions.{condition_text}
use Rattle.tv_language.specs.Programs.{IsProgramText}

-- what ends each line: a semicolon and a line feed
abbrev pub line_end : List ℕ
line_end = 59 ∷ 10 ∷ []

-- the line of a command
abbrev pub command_text : List Word → Instruction → List ℕ
command_text words (assume c) = codes "assume(" ++ (condition_text words c ++ (codes ")" ++ line_end))
command_text words (assign v e) = slice_index_or words v [] ++ (codes " := " ++ (expression_text words e ++ line_end))

abbrev pub commands_text : List Word → List Instruction → List ℕ
commands_text words [] = []
commands_text words (c ∷ cs) = command_text words c ++ commands_text words cs

-- the line that names a location, after a word that says which
abbrev pub location_text : List ℕ → List Word → ℕ → List ℕ
location_text word labels l = word ++ (codes ": " ++ (slice_index_or labels l [] ++ line_end))

-- the lines of an edge, whose variables and locations have these words
abbrev pub edge_text : List Word → List Word → Transition → List ℕ
edge_text words labels e = location_text (codes "FROM") labels e.from ++ (commands_text words e.instructions ++ location_text (codes "TO") labels e.to)

abbrev pub edges_text : List Word → List Word → List Transition → List ℕ
edges_text words labels [] = []
edges_text words labels (e ∷ es) = edge_text words labels e ++ edges_text words labels es

abbrev pub program_text : System → List ℕ
program_text p = location_text (codes "START") p.locations p.start ++ edges_text p.variables p.locations p.edges

-- where some text is a text of the program, this one is, too
abbrev pub IsProgramAgain : System → List ℕ → Type 0
IsProgramAgain p text = (t : List ℕ) → IsProgramText t p → IsProgramText text p
