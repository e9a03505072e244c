-- The grammar of programs, and the text of a program.
--
-- program = { item }
-- item    = "START" ":" label ";" | "FROM" ":" label ";" { command } "TO" ":" label ";" | passed | mark [ ";" ]
-- command = "assume" "(" condition ")" ";" | name ":=" sum ";" | mark [ ";" ]
use Rattle.std.specs.Prelude.{◌≡◌, ℕ, ◌+◌, false, List, [], ◌∷◌}
use Rattle.tv_language.specs.declared.token.TokenKind.TheVariants.{Start, From, To, Assume, Assign, Colon, Semicolon, LeftRound, RightRound, Passed, Mark, End}
use Rattle.tv_language.specs.declared.token.Token.{Token}
use Rattle.tv_language.specs.Tokens.{IsTokens}
use Rattle.tv_program.specs.Words.{Word}
use Rattle.tv_program.specs.Trees as trees
use Rattle.tv_program.specs.Trees.{Expression, number, variable, draw, minus, product, Expressions, no_part, part, Condition, truth, compare, negated, all_of, some_of, Conditions, no_test, test, Instruction, assume, assign, Transition}
use Rattle.tv_program.specs.Systems.{System, IsLimited}
use Rattle.tv_language.specs.Symbols.{Symbol, name, label, fixed, lexemes, symbols, variable_words, label_words, by_first_place}
use Rattle.tv_language.specs.Sums.{IsSum}
use Rattle.tv_language.specs.Conditions.{IsCondition}

-- ---- how many draws there are

abbrev mutual
  pub draws_in : Expression → ℕ
  draws_in (number z) = 0
  draws_in (variable v) = 0
  draws_in (draw d) = 1
  draws_in (minus e) = draws_in e
  draws_in (trees.sum es) = draws_among es
  draws_in (product es) = draws_among es

  pub draws_among : Expressions → ℕ
  draws_among no_part = 0
  draws_among (part e es) = draws_in e + draws_among es

abbrev mutual
  pub draws_tested : Condition → ℕ
  draws_tested (truth b) = 0
  draws_tested (compare r a b) = draws_in a + draws_in b
  draws_tested (negated c) = draws_tested c
  draws_tested (all_of cs) = draws_of_tests cs
  draws_tested (some_of cs) = draws_of_tests cs

  pub draws_of_tests : Conditions → ℕ
  draws_of_tests no_test = 0
  draws_of_tests (test c cs) = draws_tested c + draws_of_tests cs

abbrev pub draws_of : Instruction → ℕ
draws_of (assume c) = draws_tested c
draws_of (assign v e) = draws_in e

abbrev pub draws_counted : List Instruction → ℕ
draws_counted [] = 0
draws_counted (c ∷ cs) = draws_of c + draws_counted cs

-- an edge with these commands, whose draws are counted
abbrev pub edge_of : ℕ → ℕ → List Instruction → Transition
edge_of from to commands = record { from = from; to = to; draws = draws_counted commands; instructions = commands }

-- ---- the grammar

-- the bracket of an assumption opens a level, so 63 are left
pub data IsCommand : Instruction → List Symbol → List Symbol → Type 0 where
  assumption : {c : Condition} {ts rest : List Symbol} → IsCondition 63 c ts (fixed RightRound ∷ fixed Semicolon ∷ rest) → IsCommand (assume c) (fixed Assume ∷ fixed LeftRound ∷ ts) rest
  assignment : {v : ℕ} {e : Expression} {ts rest : List Symbol} → IsSum 64 e ts (fixed Semicolon ∷ rest) → IsCommand (assign v e) (name v ∷ fixed Assign ∷ ts) rest

-- { command }, with marks between them, which stand for nothing
pub data AreCommands : List Instruction → List Symbol → List Symbol → Type 0 where
  no_command : {rest : List Symbol} → AreCommands [] rest rest
  command : {c : Instruction} {cs : List Instruction} {ts us rest : List Symbol} → IsCommand c ts us → AreCommands cs us rest → AreCommands (c ∷ cs) ts rest
  mark : {cs : List Instruction} {ts rest : List Symbol} → AreCommands cs ts rest → AreCommands cs (fixed Mark ∷ ts) rest
  ended_mark : {cs : List Instruction} {ts rest : List Symbol} → AreCommands cs ts rest → AreCommands cs (fixed Mark ∷ fixed Semicolon ∷ ts) rest

-- { item } up to the end of the text: the locations of its START items, and its edges
pub data AreItems : List ℕ → List Transition → List Symbol → Type 0 where
  no_item : AreItems [] [] (fixed End ∷ [])
  start : {l : ℕ} {starts : List ℕ} {edges : List Transition} {ts : List Symbol} → AreItems starts edges ts → AreItems (l ∷ starts) edges (fixed Start ∷ fixed Colon ∷ label l ∷ fixed Semicolon ∷ ts)
  edge : {l m : ℕ} {commands : List Instruction} {starts : List ℕ} {edges : List Transition} {ts us : List Symbol} → AreCommands commands ts (fixed To ∷ fixed Colon ∷ label m ∷ fixed Semicolon ∷ us) → AreItems starts edges us → AreItems starts (edge_of l m commands ∷ edges) (fixed From ∷ fixed Colon ∷ label l ∷ fixed Semicolon ∷ ts)
  passed : {starts : List ℕ} {edges : List Transition} {ts : List Symbol} → AreItems starts edges ts → AreItems starts edges (fixed Passed ∷ ts)
  mark : {starts : List ℕ} {edges : List Transition} {ts : List Symbol} → AreItems starts edges ts → AreItems starts edges (fixed Mark ∷ ts)
  ended_mark : {starts : List ℕ} {edges : List Transition} {ts : List Symbol} → AreItems starts edges ts → AreItems starts edges (fixed Mark ∷ fixed Semicolon ∷ ts)

-- ---- the text of a program

-- The text is a program: its tokens are items with one START, whose location has the number 0. The other locations and the variables
-- are numbered by their first place in the text. The program keeps its limits.
pub record IsProgramText (text : List ℕ) (p : System) : Type 0 where
  pub tokens : List Token
  pub scanned : IsTokens 0 text tokens
  pub items : AreItems (0 ∷ []) p.edges (symbols (record { variables = p.variables; labels = p.locations }) (lexemes text tokens))
  pub start : p.start ≡ 0
  pub start_label : Word
  pub locations : p.locations ≡ by_first_place (start_label ∷ []) (label_words false (lexemes text tokens))
  pub variables : p.variables ≡ by_first_place [] (variable_words false (lexemes text tokens))
  pub limits : IsLimited p
