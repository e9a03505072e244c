-- The symbols of the spelling are the items of the program, where those of some text are.
use Rattle.std.proofs.Common.{◌≡◌, ℕ, ◌<◌, Bool, true, false, List, [], ◌∷◌, length, Some, refl, sym, ap, subst}
use Rattle.std.specs.Prelude.{◌&&◌, codes, IsTrue, slice_index, slice_index_or, nat_lt, nat_le}
use Rattle.std.specs.List.{list_all}
use Rattle.tv_language.specs.declared.token.TokenKind.{TokenKind}
use Rattle.tv_language.specs.declared.token.TokenKind.TheVariants.{Start, From, To, Colon, Semicolon, Assign, RightRound}
use Rattle.tv_language.specs.WordTexts.{begins_name}
use Rattle.tv_program.specs.Words.{Word, number_of}
use Rattle.tv_program.specs.Trees.{Instruction, assume, assign, Transition}
use Rattle.tv_program.specs.Limits.{condition_fits, condition_depth, expression_fits, expression_depth, instruction_fits, transition_fits}
use Rattle.tv_program.specs.Systems.{System}
use Rattle.tv_language.specs.Symbols.{Symbol, Vocabulary, name, label, fixed, numbered}
use Rattle.tv_language.specs.Programs as programs
use Rattle.tv_language.specs.Programs.{draws_counted, IsCommand, AreCommands, AreItems}
use Rattle.tv_spelling.specs.ReadAgain.{AreNames, draws_after, draws_after_test, IsOrdered, IsOrderedTest}
use Rattle.tv_spelling.proofs.Pieces.{Piece, line_feed, word, symbols_of}
use Rattle.tv_spelling.proofs.SumPieces.{both_hold, below, expression_pieces}
use Rattle.tv_spelling.proofs.SumLevels.{sum_levels, is_regular}
use Rattle.tv_spelling.proofs.SumLeast.{IsLeast, sum_least}
use Rattle.tv_spelling.proofs.SumDerived.{expression_shown}
use Rattle.tv_spelling.proofs.ConditionLevels.{condition_levels, is_regular_test}
use Rattle.tv_spelling.proofs.ConditionLeast.{condition_least}
use Rattle.tv_spelling.proofs.ConditionDerived.{condition_shown}
use Rattle.tv_spelling.proofs.Ordered.{AreNumbered, GoesOn, sum_ordered, condition_ordered}
use Rattle.tv_language.proofs.PlaceOfWords.{Differ}
use Rattle.tv_spelling.proofs.ProgramPieces.{kind_by, location_pieces, command_pieces, commands_pieces, edges_pieces, program_pieces, edge_fits}

-- ---- what some text of a program shows of its edges

-- the draws of a command are ordered, from number `draws` on, and its text is not too deep
abbrev pub IsWritable : Instruction → ℕ → Type 0
IsWritable (assume c) draws = IsOrderedTest c draws × IsLeast (is_regular_test c) (condition_levels c) 63
IsWritable (assign v e) draws = IsOrdered e draws × IsLeast (is_regular e) (sum_levels e) 64

abbrev pub draws_behind_command : Instruction → ℕ → ℕ
draws_behind_command (assume c) draws = draws_after_test c draws
draws_behind_command (assign v e) draws = draws_after e draws

abbrev pub draws_behind_commands : List Instruction → ℕ → ℕ
draws_behind_commands [] draws = draws
draws_behind_commands (c ∷ cs) draws = draws_behind_commands cs (draws_behind_command c draws)

abbrev pub AreWritable : List Instruction → ℕ → Type 0
AreWritable [] draws = Unit {0}
AreWritable (c ∷ cs) draws = IsWritable c draws × AreWritable cs (draws_behind_command c draws)

-- each edge has as many draws as its commands, and these are writable
abbrev pub EdgesWritable : List Transition → Type 0
EdgesWritable [] = Unit {0}
EdgesWritable (e ∷ es) = (draws_counted e.instructions ≡ e.draws) × AreWritable e.instructions 0 × EdgesWritable es

command_writable : (c : Instruction) (ts rest : List Symbol) (draws : ℕ) → IsCommand c ts rest → AreNumbered draws ts → GoesOn (IsWritable c draws) (draws_behind_command c draws) rest
command_writable c ts rest draws (programs.assumption {c = tested} d) h =
    let o = condition_ordered 63 tested _ _ draws d h in
    ((o.0, condition_least 63 tested _ _ d), o.1)
command_writable c ts rest draws (programs.assignment {e = e} d) h =
    let o = sum_ordered 64 e _ _ draws d h in
    ((o.0, sum_least 64 e _ _ d), o.1)

commands_writable : (cs : List Instruction) (ts rest : List Symbol) (draws : ℕ) → AreCommands cs ts rest → AreNumbered draws ts → GoesOn (AreWritable cs draws) (draws_behind_commands cs draws) rest
commands_writable cs ts rest draws programs.no_command h = (tt, h)
commands_writable cs ts rest draws (programs.command {c = c} {cs = others} {us = us} d ds) h =
    let first = command_writable c ts us draws d h in
    let behind = commands_writable others us rest (draws_behind_command c draws) ds first.1 in
    ((first.0, behind.0), behind.1)
commands_writable cs ts rest draws (programs.mark d) h = commands_writable cs _ rest draws d h
commands_writable cs ts rest draws (programs.ended_mark d) h = commands_writable cs _ rest draws d h

pub items_writable : (starts : List ℕ) (edges : List Transition) (ts : List Symbol) (draws : ℕ) → AreItems starts edges ts → AreNumbered draws ts → EdgesWritable edges
items_writable starts edges ts draws programs.no_item h = tt
items_writable starts edges ts draws (programs.start {starts = others} d) h = items_writable others edges _ draws d h
items_writable starts edges ts draws (programs.edge {m = m} {commands = commands} {edges = others} {ts = us} {us = rest} cs d) h =
    let o = commands_writable commands us (fixed To ∷ fixed Colon ∷ label m ∷ fixed Semicolon ∷ rest) 0 cs h in
    (refl, o.0, items_writable starts others rest (draws_behind_commands commands 0) d o.1)
items_writable starts edges ts draws (programs.passed d) h = items_writable starts edges _ draws d h
items_writable starts edges ts draws (programs.mark d) h = items_writable starts edges _ draws d h
items_writable starts edges ts draws (programs.ended_mark d) h = items_writable starts edges _ draws d h

-- ---- the symbols of the spelling

-- where a command begins with a name that is known
assigned : (v : Vocabulary) (n : ℕ) (w : Word) (ss : List Symbol) → number_of w v.variables ≡ Some n → numbered name (number_of w v.variables) ∷ fixed Assign ∷ ss ≡ name n ∷ fixed Assign ∷ ss
assigned v n w ss is = ap (λ o. numbered name o ∷ fixed Assign ∷ ss) is

command_derived : (v : Vocabulary) (ds : ℕ) → AreNames v.variables → (c : Instruction) → IsTrue (instruction_fits (length v.variables) ds c) → (draws : ℕ) (rest : List Piece) → IsWritable c draws
    → IsCommand c (symbols_of v false draws (command_pieces v.variables c rest)) (symbols_of v false (draws_behind_command c draws) rest)
command_derived v ds names (assume c) fits draws rest h =
    let behind = word RightRound (41 ∷ []) ∷ word Semicolon (59 ∷ []) ∷ line_feed ∷ rest in
    let f = both_hold (condition_fits (length v.variables) ds c) (nat_le (condition_depth c) 400) fits in
    programs.assumption ((condition_shown v ds names c f.0 h.1.0).as_condition 63 draws behind h.0 h.1.1)
command_derived v ds names (assign n e) fits draws rest h =
    let behind = word Semicolon (59 ∷ []) ∷ line_feed ∷ rest in
    let f = both_hold (nat_lt n (length v.variables)) (expression_fits (length v.variables) ds e) (both_hold (nat_lt n (length v.variables) && expression_fits (length v.variables) ds e) (nat_le (expression_depth e) 400) fits).0 in
    let Before : List Symbol → Type 0 = λ ss. IsCommand (assign n e) ss (symbols_of v false (draws_after e draws) rest) in
    subst Before (sym (assigned v n (slice_index_or v.variables n []) (symbols_of v false draws (expression_pieces v.variables e behind)) (names.differ n (below n (length v.variables) f.0))))
    (programs.assignment ((expression_shown v ds names e f.1 h.1.0).as_sum 64 draws behind h.0 h.1.1))

commands_derived : (v : Vocabulary) (ds : ℕ) → AreNames v.variables → (cs : List Instruction) → IsTrue (list_all (instruction_fits (length v.variables) ds) cs) → (draws : ℕ) (rest : List Piece) → AreWritable cs draws
    → AreCommands cs (symbols_of v false draws (commands_pieces v.variables cs rest)) (symbols_of v false (draws_behind_commands cs draws) rest)
commands_derived v ds names [] fits draws rest h = programs.no_command
commands_derived v ds names (c ∷ cs) fits draws rest h =
    let f = both_hold (instruction_fits (length v.variables) ds c) (list_all (instruction_fits (length v.variables) ds) cs) fits in
    programs.command (command_derived v ds names c f.0 draws (commands_pieces v.variables cs rest) h.0) (commands_derived v ds names cs f.1 (draws_behind_command c draws) rest h.1)

label_symbols : (v : Vocabulary) (t : Bool) (draws : ℕ) (u : Word) (l : ℕ) (rest : List Piece) → number_of u v.labels ≡ Some l
    → symbols_of v true draws (word (kind_by t) u ∷ word Semicolon (59 ∷ []) ∷ line_feed ∷ rest) ≡ label l ∷ fixed Semicolon ∷ symbols_of v false draws rest
label_symbols v true draws u l rest h = ap (λ o. numbered label o ∷ fixed Semicolon ∷ symbols_of v false draws rest) h
label_symbols v false draws u l rest h = ap (λ o. numbered label o ∷ fixed Semicolon ∷ symbols_of v false draws rest) h

-- a location after a word; from there on the draws are numbered from `after`
location_symbols : (v : Vocabulary) (kind : TokenKind) (w : List ℕ) (l draws after : ℕ) (rest : List Piece)
    → ((bs : List Piece) → symbols_of v false draws (word kind w ∷ word Colon (58 ∷ []) ∷ bs) ≡ fixed kind ∷ fixed Colon ∷ symbols_of v true after bs) → number_of (slice_index_or v.labels l []) v.labels ≡ Some l
    → symbols_of v false draws (location_pieces kind w v.labels l rest) ≡ fixed kind ∷ fixed Colon ∷ label l ∷ fixed Semicolon ∷ symbols_of v false after rest
location_symbols v kind w l draws after rest begins is =
    let u = slice_index_or v.labels l [] in
    let behind = word (kind_by (begins_name (slice_index u 0))) u ∷ word Semicolon (59 ∷ []) ∷ line_feed ∷ rest in
    subst (λ (ss : List Symbol). symbols_of v false draws (location_pieces kind w v.labels l rest) ≡ fixed kind ∷ fixed Colon ∷ ss) (label_symbols v (begins_name (slice_index u 0)) after u l rest is) (begins behind)

edges_derived : (v : Vocabulary) → AreNames v.variables → Differ v.labels → (es : List Transition) → IsTrue (list_all (transition_fits (length v.variables) (length v.labels)) es) → EdgesWritable es → (draws : ℕ)
    → AreItems [] es (symbols_of v false draws (edges_pieces v.variables v.labels es))
edges_derived v names differ [] fits h draws = programs.no_item
edges_derived v names differ (e ∷ es) fits h draws =
    let t = both_hold (transition_fits (length v.variables) (length v.labels) e) (list_all (transition_fits (length v.variables) (length v.labels)) es) fits in
    let f = edge_fits (length v.variables) (length v.labels) e t.0 in
    let others = edges_pieces v.variables v.labels es in
    let behind = location_pieces To (codes "TO") v.labels e.to others in
    let after = draws_behind_commands e.instructions 0 in
    let first = location_symbols v From (codes "FROM") e.from draws 0 (commands_pieces v.variables e.instructions behind) (λ bs. refl) (differ e.from f.from) in
    let last = location_symbols v To (codes "TO") e.to after after others (λ bs. refl) (differ e.to f.to) in
    let commands = commands_derived v e.draws names e.instructions f.commands 0 behind h.1 in
    let Commands : List Symbol → Type 0 = λ ss. AreCommands e.instructions (symbols_of v false 0 (commands_pieces v.variables e.instructions behind)) ss in
    let items = programs.edge (subst Commands last commands) (edges_derived v names differ es t.1 h.2 after) in
    let Whole : ℕ → List Symbol → Type 0 = λ n ss. AreItems [] (record { from = e.from; to = e.to; draws = n; instructions = e.instructions } ∷ es) ss in
    subst (λ n. Whole n (symbols_of v false draws (edges_pieces v.variables v.labels (e ∷ es)))) h.0
    (subst (Whole (draws_counted e.instructions)) (sym first) items)

pub program_derived : (p : System) → AreNames p.variables → Differ p.locations → p.start ≡ 0 → 0 < length p.locations
    → IsTrue (list_all (transition_fits (length p.variables) (length p.locations)) p.edges) → EdgesWritable p.edges → AreItems (0 ∷ []) p.edges (symbols_of (record { variables = p.variables; labels = p.locations }) false 0 (program_pieces p))
program_derived p names differ zero some fits h =
    let v : Vocabulary = record { variables = p.variables; labels = p.locations } in
    let others = edges_pieces p.variables p.locations p.edges in
    let first = location_symbols v Start (codes "START") 0 0 0 others (λ bs. refl) (differ 0 some) in
    let Items : List Symbol → Type 0 = λ ss. AreItems (0 ∷ []) p.edges ss in
    subst (λ (l : ℕ). Items (symbols_of v false 0 (location_pieces Start (codes "START") p.locations l others))) (sym zero)
    (subst Items (sym first) (programs.start (edges_derived v names differ p.edges fits h 0)))
