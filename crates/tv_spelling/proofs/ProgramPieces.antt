-- The words, spaces and line feeds of a program.
use Rattle.std.proofs.Common.{◌≡◌, ℕ, Bool, true, false, List, [], ◌∷◌, ◌++◌, length, refl, sym, ap, ◌∙◌, append_assoc, ◌<◌, arith}
use Rattle.std.specs.Prelude.{◌&&◌, codes, IsTrue, slice_index, slice_index_or, EachIndex, nat_lt, nat_le}
use Rattle.std.specs.List.{list_all}
use Rattle.std.specs.Char.{is_ascii_digit}
use Rattle.tv_language.specs.declared.token.TokenKind.{TokenKind}
use Rattle.tv_language.specs.declared.token.TokenKind.TheVariants.{Start, From, To, Assume, Assign, Colon, Semicolon, LeftRound, RightRound, Name, Number}
use Rattle.tv_language.specs.declared.front.Front.TheVariants as fronts
use Rattle.tv_language.specs.Fronts.{front_of}
use Rattle.tv_language.specs.WordTexts.{begins_name, continues_name}
use Rattle.tv_program.specs.Words.{Word}
use Rattle.tv_program.specs.Trees.{Instruction, assume, assign, Transition}
use Rattle.tv_program.specs.Limits.{condition_fits, condition_depth, expression_fits, expression_depth, instruction_fits, transition_fits}
use Rattle.tv_program.specs.Systems.{System}
use Rattle.tv_spelling.specs.Sums.{expression_text}
use Rattle.tv_spelling.specs.Conditions.{condition_text}
use Rattle.tv_spelling.specs.Programs.{line_end, command_text, commands_text, location_text, edge_text, edges_text, program_text}
use Rattle.tv_spelling.specs.ReadAgain.{IsName, AreNames}
use Rattle.tv_spelling.proofs.Pieces.{Piece, blank, line_feed, word, bytes, AreFronts, IsReady}
use Rattle.tv_spelling.proofs.FrontLemmas.{digit_begins_no_name, word_at_front, name_front, number_front_is}
use Rattle.tv_spelling.proofs.FrontWords.{IsNumberWord, IsLabelWord, named, numbered}
use Rattle.tv_spelling.proofs.SumPieces.{Writes, expression_pieces, expression_bytes, expression_fronts, both_hold, below}
use Rattle.tv_spelling.proofs.ConditionPieces.{condition_pieces, condition_bytes, condition_fronts}

abbrev pub kind_by : Bool → TokenKind
kind_by true = Name
kind_by false = Number

-- a label is a name or a number
abbrev pub label_kind : Word → TokenKind
label_kind w = kind_by (begins_name (slice_index w 0))

abbrev pub location_pieces : TokenKind → List ℕ → List Word → ℕ → List Piece → List Piece
location_pieces kind w labels l rest =
    word kind w ∷ word Colon (58 ∷ []) ∷ blank ∷ word (label_kind (slice_index_or labels l [])) (slice_index_or labels l []) ∷ word Semicolon (59 ∷ []) ∷ line_feed ∷ rest

abbrev pub command_pieces : List Word → Instruction → List Piece → List Piece
command_pieces ws (assume c) rest = word Assume (codes "assume") ∷ word LeftRound (40 ∷ []) ∷ condition_pieces ws c (word RightRound (41 ∷ []) ∷ word Semicolon (59 ∷ []) ∷ line_feed ∷ rest)
command_pieces ws (assign v e) rest = word Name (slice_index_or ws v []) ∷ blank ∷ word Assign (58 ∷ 61 ∷ []) ∷ blank ∷ expression_pieces ws e (word Semicolon (59 ∷ []) ∷ line_feed ∷ rest)

abbrev pub commands_pieces : List Word → List Instruction → List Piece → List Piece
commands_pieces ws [] rest = rest
commands_pieces ws (c ∷ cs) rest = command_pieces ws c (commands_pieces ws cs rest)

abbrev pub edge_pieces : List Word → List Word → Transition → List Piece → List Piece
edge_pieces ws labels e rest = location_pieces From (codes "FROM") labels e.from (commands_pieces ws e.instructions (location_pieces To (codes "TO") labels e.to rest))

abbrev pub edges_pieces : List Word → List Word → List Transition → List Piece
edges_pieces ws labels [] = []
edges_pieces ws labels (e ∷ es) = edge_pieces ws labels e (edges_pieces ws labels es)

abbrev pub program_pieces : System → List Piece
program_pieces p = location_pieces Start (codes "START") p.locations p.start (edges_pieces p.variables p.locations p.edges)

-- ---- their bytes are the text

ended : (before text behind rest : List ℕ) → before ++ (text ++ (behind ++ rest)) ≡ (before ++ (text ++ behind)) ++ rest
ended before text behind rest = ap (λ (x : List ℕ). before ++ x) (sym (append_assoc text behind rest)) ∙ sym (append_assoc before (text ++ behind) rest)

location_bytes : (kind : TokenKind) (w : List ℕ) (labels : List Word) (l : ℕ) → Writes (location_pieces kind w labels l) (location_text w labels l)
location_bytes kind w labels l rest =
    let u = slice_index_or labels l [] in
    ap (λ (x : List ℕ). w ++ x) (ended (58 ∷ 32 ∷ []) u line_end (bytes rest)) ∙ sym (append_assoc w (codes ": " ++ (u ++ line_end)) (bytes rest))

command_bytes : (ws : List Word) (c : Instruction) → Writes (command_pieces ws c) (command_text ws c)
command_bytes ws (assume c) rest =
    ap (λ (x : List ℕ). codes "assume(" ++ x) (condition_bytes ws c (word RightRound (41 ∷ []) ∷ word Semicolon (59 ∷ []) ∷ line_feed ∷ rest)) ∙ ended (codes "assume(") (condition_text ws c) (codes ")" ++ line_end) (bytes rest)
command_bytes ws (assign v e) rest =
    let w = slice_index_or ws v [] in
    ap (λ (x : List ℕ). w ++ (codes " := " ++ x)) (expression_bytes ws e (word Semicolon (59 ∷ []) ∷ line_feed ∷ rest)) ∙ ap (λ (x : List ℕ). w ++ x) (ended (codes " := ") (expression_text ws e) line_end (bytes rest))
    ∙ sym (append_assoc w (codes " := " ++ (expression_text ws e ++ line_end)) (bytes rest))

commands_bytes : (ws : List Word) (cs : List Instruction) → Writes (commands_pieces ws cs) (commands_text ws cs)
commands_bytes ws [] rest = refl
commands_bytes ws (c ∷ cs) rest =
    command_bytes ws c (commands_pieces ws cs rest) ∙ ap (λ (x : List ℕ). command_text ws c ++ x) (commands_bytes ws cs rest) ∙ sym (append_assoc (command_text ws c) (commands_text ws cs) (bytes rest))

edge_bytes : (ws labels : List Word) (e : Transition) → Writes (edge_pieces ws labels e) (edge_text ws labels e)
edge_bytes ws labels e rest =
    let from = location_text (codes "FROM") labels e.from in
    let to = location_text (codes "TO") labels e.to in
    let behind = location_pieces To (codes "TO") labels e.to rest in
    location_bytes From (codes "FROM") labels e.from (commands_pieces ws e.instructions behind)
    ∙ ap (λ (x : List ℕ). from ++ x) (commands_bytes ws e.instructions behind ∙ ap (λ (x : List ℕ). commands_text ws e.instructions ++ x) (location_bytes To (codes "TO") labels e.to rest))
    ∙ ended from (commands_text ws e.instructions) to (bytes rest)

edges_bytes : (ws labels : List Word) (es : List Transition) → bytes (edges_pieces ws labels es) ≡ edges_text ws labels es
edges_bytes ws labels [] = refl
edges_bytes ws labels (e ∷ es) = edge_bytes ws labels e (edges_pieces ws labels es) ∙ ap (λ (x : List ℕ). edge_text ws labels e ++ x) (edges_bytes ws labels es)

pub program_bytes : (p : System) → bytes (program_pieces p) ≡ program_text p
program_bytes p =
    location_bytes Start (codes "START") p.locations p.start (edges_pieces p.variables p.locations p.edges)
    ∙ ap (λ (x : List ℕ). location_text (codes "START") p.locations p.start ++ x) (edges_bytes p.variables p.locations p.edges)

-- ---- each word is the token at the front

pub number_begins_no_name : (w : Word) → IsNumberWord w → begins_name (slice_index w 0) ≡ false
number_begins_no_name [] h = let s = h.some in absurd (omega (arith, s))
number_begins_no_name (d ∷ ds) h = digit_begins_no_name d (both_hold (is_ascii_digit d) (list_all is_ascii_digit ds) h.digits).0

pub label_front : (w x : List ℕ) → IsLabelWord w → continues_name (slice_index x 0) ≡ false → front_of (w ++ x) ≡ fronts.Token (label_kind w) (length w)
label_front w x (named h) stops = name_front w x h stops ∙ ap (λ (b : Bool). fronts.Token (kind_by b) (length w)) (sym h.begins)
label_front w x (numbered h) stops = number_front_is w x h.some h.digits h.narrow stops ∙ ap (λ (b : Bool). fronts.Token (kind_by b) (length w)) (sym (number_begins_no_name w h))

colon_front : (x : List ℕ) → front_of (58 ∷ 32 ∷ x) ≡ fronts.Token Colon 1
unfolding front_of
colon_front x = refl

line_front : (x : List ℕ) → front_of (59 ∷ 10 ∷ x) ≡ fronts.Token Semicolon 1
unfolding front_of
line_front x = refl

location_fronts : (kind : TokenKind) (w : List ℕ) (labels : List Word) (l : ℕ) (rest : List Piece) → ((x : List ℕ) → front_of (w ++ (58 ∷ x)) ≡ fronts.Token kind (length w)) → IsLabelWord (slice_index_or labels l []) → AreFronts rest
    → AreFronts (location_pieces kind w labels l rest)
location_fronts kind w labels l rest front is h =
    let u = slice_index_or labels l [] in
    (front (32 ∷ (u ++ (59 ∷ 10 ∷ bytes rest))), (colon_front (u ++ (59 ∷ 10 ∷ bytes rest)), (label_front u (59 ∷ 10 ∷ bytes rest) is refl, (line_front (bytes rest), h))))

start_front : (x : List ℕ) → front_of (codes "START" ++ (58 ∷ x)) ≡ fronts.Token Start 5
start_front x = word_at_front Start (λ n y. refl) 83 (codes "TART") (58 ∷ x) refl refl refl refl

from_front : (x : List ℕ) → front_of (codes "FROM" ++ (58 ∷ x)) ≡ fronts.Token From 4
from_front x = word_at_front From (λ n y. refl) 70 (codes "ROM") (58 ∷ x) refl refl refl refl

to_front : (x : List ℕ) → front_of (codes "TO" ++ (58 ∷ x)) ≡ fronts.Token To 2
to_front x = word_at_front To (λ n y. refl) 84 (codes "O") (58 ∷ x) refl refl refl refl

ready_line : (rest : List Piece) → AreFronts rest → IsReady (word Semicolon (59 ∷ []) ∷ line_feed ∷ rest)
ready_line rest h = record { stops = refl; fronts = (line_front (bytes rest), h) }

ready_bracket : (rest : List Piece) → AreFronts rest → IsReady (word RightRound (41 ∷ []) ∷ word Semicolon (59 ∷ []) ∷ line_feed ∷ rest)
unfolding front_of
ready_bracket rest h = record { stops = refl; fronts = (refl, (line_front (bytes rest), h)) }

assume_fronts : (bs : List Piece) → AreFronts bs → AreFronts (word Assume (codes "assume") ∷ word LeftRound (40 ∷ []) ∷ bs)
unfolding front_of
assume_fronts bs h = (word_at_front Assume (λ n y. refl) 97 (codes "ssume") (40 ∷ bytes bs) refl refl refl refl, (refl, h))

assign_fronts : (w : Word) (bs : List Piece) → IsName w → AreFronts bs → AreFronts (word Name w ∷ blank ∷ word Assign (58 ∷ 61 ∷ []) ∷ blank ∷ bs)
unfolding front_of
assign_fronts w bs is h = (name_front w (32 ∷ 58 ∷ 61 ∷ 32 ∷ bytes bs) is refl, (refl, h))

command_fronts : (ws : List Word) (ds : ℕ) → AreNames ws → (c : Instruction) → IsTrue (instruction_fits (length ws) ds c) → (rest : List Piece) → AreFronts rest → AreFronts (command_pieces ws c rest)
command_fronts ws ds names (assume c) fits rest h =
    let behind = word RightRound (41 ∷ []) ∷ word Semicolon (59 ∷ []) ∷ line_feed ∷ rest in
    assume_fronts (condition_pieces ws c behind) (condition_fronts ws ds names c (both_hold (condition_fits (length ws) ds c) (nat_le (condition_depth c) 400) fits).0 behind (ready_bracket rest h))
command_fronts ws ds names (assign v e) fits rest h =
    let behind = word Semicolon (59 ∷ []) ∷ line_feed ∷ rest in
    let t = both_hold (nat_lt v (length ws)) (expression_fits (length ws) ds e) (both_hold (nat_lt v (length ws) && expression_fits (length ws) ds e) (nat_le (expression_depth e) 400) fits).0 in
    assign_fronts (slice_index_or ws v []) (expression_pieces ws e behind) (names.are_names v (below v (length ws) t.0)) (expression_fronts ws ds names e t.1 behind (ready_line rest h))

commands_fronts : (ws : List Word) (ds : ℕ) → AreNames ws → (cs : List Instruction) → IsTrue (list_all (instruction_fits (length ws) ds) cs) → (rest : List Piece) → AreFronts rest → AreFronts (commands_pieces ws cs rest)
commands_fronts ws ds names [] fits rest h = h
commands_fronts ws ds names (c ∷ cs) fits rest h =
    let t = both_hold (instruction_fits (length ws) ds c) (list_all (instruction_fits (length ws) ds) cs) fits in
    command_fronts ws ds names c t.0 (commands_pieces ws cs rest) (commands_fronts ws ds names cs t.1 rest h)

-- what it means that an edge fits
pub record FitsEdge (variables locations : ℕ) (e : Transition) : Type 0 where
  pub from : e.from < locations
  pub to : e.to < locations
  pub commands : IsTrue (list_all (instruction_fits variables e.draws) e.instructions)

pub edge_fits : (variables locations : ℕ) (e : Transition) → IsTrue (transition_fits variables locations e) → FitsEdge variables locations e
edge_fits vs ls e h =
    let a = both_hold (nat_lt e.from ls && nat_lt e.to ls && nat_le e.draws 64) (list_all (instruction_fits vs e.draws) e.instructions) h in
    let b = both_hold (nat_lt e.from ls && nat_lt e.to ls) (nat_le e.draws 64) a.0 in
    let c = both_hold (nat_lt e.from ls) (nat_lt e.to ls) b.0 in
    record { from = below e.from ls c.0; to = below e.to ls c.1; commands = a.1 }

abbrev pub AreLabels : List Word → Type 0
AreLabels labels = EachIndex labels (λ l. IsLabelWord (slice_index_or labels l []))

edges_fronts : (ws labels : List Word) → AreNames ws → AreLabels labels → (es : List Transition) → IsTrue (list_all (transition_fits (length ws) (length labels)) es) → AreFronts (edges_pieces ws labels es)
edges_fronts ws labels names are [] fits = tt
edges_fronts ws labels names are (e ∷ es) fits =
    let t = both_hold (transition_fits (length ws) (length labels) e) (list_all (transition_fits (length ws) (length labels)) es) fits in
    let f = edge_fits (length ws) (length labels) e t.0 in
    let behind = location_pieces To (codes "TO") labels e.to (edges_pieces ws labels es) in
    location_fronts From (codes "FROM") labels e.from (commands_pieces ws e.instructions behind) from_front (are e.from f.from)
    (commands_fronts ws e.draws names e.instructions f.commands behind (location_fronts To (codes "TO") labels e.to (edges_pieces ws labels es) to_front (are e.to f.to) (edges_fronts ws labels names are es t.1)))

pub program_fronts : (p : System) → AreNames p.variables → AreLabels p.locations → p.start < length p.locations → IsTrue (list_all (transition_fits (length p.variables) (length p.locations)) p.edges) → AreFronts (program_pieces p)
program_fronts p names are starts fits =
    location_fronts Start (codes "START") p.locations p.start (edges_pieces p.variables p.locations p.edges) start_front (are p.start starts) (edges_fronts p.variables p.locations names are p.edges fits)
