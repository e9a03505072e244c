-- The variables and locations of a program's items are those of its edges, in order.
use Rattle.std.proofs.Common.{◌≡◌, ℕ, List, [], ◌∷◌, Option, refl, ap, subst, ◌∙◌}
use Rattle.std.specs.Prelude.{slice_index_or}
use Rattle.tv_language.specs.declared.token.TokenKind.TheVariants.{To, Colon, Semicolon}
use Rattle.tv_program.specs.Words.{Word, words_with, with_new}
use Rattle.tv_program.specs.Trees.{Transition}
use Rattle.tv_language.specs.Symbols.{Symbol, fixed, label, by_first_place}
use Rattle.tv_language.specs.Programs.{AreItems, no_item, start, edge, passed, mark, ended_mark}
use Rattle.tv_language.proofs.PlaceLemmas.{Leads, leads, leader-number}
use Rattle.tv_spelling.proofs.Mentioned.{variables_in, locations_in, AreKnown, variables_commanded, commands_mention}
use Rattle.tv_language.proofs.PlaceOfWords.{Each}
use Rattle.tv_spelling.proofs.WordsOfSymbols.{words_at}

abbrev pub edge_variables : List Transition → List ℕ
edge_variables [] = []
edge_variables (e ∷ es) = variables_commanded e.instructions (edge_variables es)

abbrev pub edge_locations : List Transition → List ℕ
edge_locations [] = []
edge_locations (e ∷ es) = e.from ∷ e.to ∷ edge_locations es

-- ---- variables

pub items_variables : (starts : List ℕ) (edges : List Transition) (ts : List Symbol) → AreItems starts edges ts → (variables_in ts ≡ edge_variables edges) × AreKnown ts
items_variables starts edges ts no_item = (refl, tt)
items_variables starts edges ts (start {starts = others} d) = items_variables others edges _ d
items_variables starts edges ts (edge {m = m} {commands = commands} {edges = others} {ts = us} {us = rest} cs d) =
    let h = commands_mention commands us (fixed To ∷ fixed Colon ∷ label m ∷ fixed Semicolon ∷ rest) cs in
    let k = items_variables starts others rest d in
    (h.0 ∙ ap (variables_commanded commands) k.0, h.2 k.1)
items_variables starts edges ts (passed d) = items_variables starts edges _ d
items_variables starts edges ts (mark d) = items_variables starts edges _ d
items_variables starts edges ts (ended_mark d) = items_variables starts edges _ d

-- ---- locations

-- each is the location with the number 0
abbrev pub AreFirst : List ℕ → Type 0
AreFirst [] = Unit {0}
AreFirst (l ∷ ls) = (l ≡ 0) × AreFirst ls

-- what comes first is there already
kept : (w : Word) (known : List Word) → Leads w known → words_with w known ≡ known
kept w known h = ap (λ (o : Option ℕ). with_new o w known) (leader-number w known h)

-- wherever START stands, the locations have the same places
pub items_locations : (w : Word) (ws known : List Word) (starts : List ℕ) (edges : List Transition) (ts : List Symbol) → slice_index_or ws 0 [] ≡ w → Leads w known → AreFirst starts → AreItems starts edges ts
    → by_first_place known (words_at ws (locations_in ts)) ≡ by_first_place known (words_at ws (edge_locations edges))
items_locations w ws known starts edges ts is h f no_item = refl
items_locations w ws known starts edges ts is h f (start {l = l} {starts = others} {ts = us} d) =
    let here : slice_index_or ws l [] ≡ w = ap (λ (k : ℕ). slice_index_or ws k []) f.0 ∙ is in
    ap (λ (u : Word). by_first_place (words_with u known) (words_at ws (locations_in us))) here ∙ ap (λ (us' : List Word). by_first_place us' (words_at ws (locations_in us))) (kept w known h)
    ∙ items_locations w ws known others edges us is h f.1 d
items_locations w ws known starts edges ts is h f (edge {l = l} {m = m} {commands = commands} {edges = others} {ts = us} {us = rest} cs d) =
    let from = slice_index_or ws l [] in
    let to = slice_index_or ws m [] in
    let mentions = commands_mention commands us (fixed To ∷ fixed Colon ∷ label m ∷ fixed Semicolon ∷ rest) cs in
    ap (λ (ls : List ℕ). by_first_place (words_with from known) (words_at ws ls)) mentions.1
    ∙ items_locations w ws (words_with to (words_with from known)) starts others rest is (leads w known (from ∷ to ∷ []) h) f d
items_locations w ws known starts edges ts is h f (passed d) = items_locations w ws known starts edges _ is h f d
items_locations w ws known starts edges ts is h f (mark d) = items_locations w ws known starts edges _ is h f d
items_locations w ws known starts edges ts is h f (ended_mark d) = items_locations w ws known starts edges _ is h f d

-- the location of a START is among them
pub start_among : (P : Word → Type 0) (ws : List Word) (l : ℕ) (starts : List ℕ) (edges : List Transition) (ts : List Symbol) → AreItems (l ∷ starts) edges ts → Each P (words_at ws (locations_in ts)) → P (slice_index_or ws l [])
start_among P ws l starts edges ts (start d) h = h.0
start_among P ws l starts edges ts (edge {m = m} {commands = commands} {edges = others} {ts = us} {us = rest} cs d) h =
    let mentions = commands_mention commands us (fixed To ∷ fixed Colon ∷ label m ∷ fixed Semicolon ∷ rest) cs in
    let behind = subst (λ (ls : List ℕ). Each P (words_at ws ls)) mentions.1 h.1 in
    start_among P ws l starts others rest d behind.1
start_among P ws l starts edges ts (passed d) h = start_among P ws l starts edges _ d h
start_among P ws l starts edges ts (mark d) h = start_among P ws l starts edges _ d h
start_among P ws l starts edges ts (ended_mark d) h = start_among P ws l starts edges _ d h
