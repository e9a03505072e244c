-- The spelling of a program that has a text is a text of it, too.
use Rattle.std.proofs.Common.{◌≡◌, ℕ, zero, suc, ◌<◌, false, List, [], ◌∷◌, length, refl, sym, ap, subst, ◌∙◌, arith}
use Rattle.std.specs.Prelude.{slice_index_or}
use Rattle.tv_language.specs.Tokens.{IsTokens}
use Rattle.tv_program.specs.Words.{Word}
use Rattle.tv_program.specs.Systems.{System}
use Rattle.tv_language.specs.Symbols.{Symbol, Vocabulary, Lexeme, lexemes, symbols, variable_words, label_words, by_first_place}
use Rattle.tv_language.specs.Programs.{AreItems, IsProgramText}
use Rattle.tv_language.proofs.PlaceLemmas.{leads, leader-number}
use Rattle.tv_spelling.specs.Programs.{program_text, IsProgramAgain}
use Rattle.tv_spelling.specs.ReadAgain.{IsName, AreNames}
use Rattle.tv_spelling.proofs.Pieces.{laid, laid_tokens, laid_symbols}
use Rattle.tv_spelling.proofs.SumPieces.{below}
use Rattle.tv_spelling.proofs.Ordered.{symbols_numbered}
use Rattle.tv_language.proofs.PlaceOfWords.{Each, each_once, each_placed, each_index, Differ}
use Rattle.tv_spelling.proofs.FrontWords.{IsLabelWord, words_read, names_read, labels_read}
use Rattle.tv_spelling.proofs.WordsOfSymbols.{words_at, variables_are, labels_are}
use Rattle.tv_spelling.proofs.ItemWords.{edge_variables, edge_locations, items_variables, items_locations, start_among}
use Rattle.tv_spelling.proofs.ProgramPieces.{program_pieces, program_bytes, program_fronts, AreLabels}
use Rattle.tv_spelling.proofs.ProgramDerived.{items_writable, program_derived}

-- ---- the words of a program are those of its edges

abbrev IsItems : System → List Lexeme → Type 0
IsItems p xs = AreItems (0 ∷ []) p.edges (symbols (record { variables = p.variables; labels = p.locations }) xs)

program_variables : (p : System) (xs : List Lexeme) → IsItems p xs → variable_words false xs ≡ words_at p.variables (edge_variables p.edges)
program_variables p xs items =
    let v : Vocabulary = record { variables = p.variables; labels = p.locations } in
    let h = items_variables (0 ∷ []) p.edges (symbols v xs) items in
    variables_are v false 0 xs h.1 ∙ ap (words_at p.variables) h.0

program_locations : (p : System) (w : Word) (xs : List Lexeme) → slice_index_or p.locations 0 [] ≡ w → IsItems p xs → by_first_place (w ∷ []) (label_words false xs) ≡ by_first_place (w ∷ []) (words_at p.locations (edge_locations p.edges))
program_locations p w xs is items =
    let v : Vocabulary = record { variables = p.variables; labels = p.locations } in
    let h = items_variables (0 ∷ []) p.edges (symbols v xs) items in
    ap (by_first_place (w ∷ [])) (labels_are v false 0 xs h.1)
    ∙ items_locations w p.locations (w ∷ []) (0 ∷ []) p.edges (symbols v xs) is (record { behind = []; same = refl }) (refl, tt) items

-- ---- what a text shows of the words

none_differ : Differ []
none_differ v h = absurd (omega arith)

one_differs : (w : Word) → Differ (w ∷ [])
one_differs w zero h = leader-number w (w ∷ []) (record { behind = []; same = refl })
one_differs w (suc v) h = absurd (omega arith)

names_differ : (t : List ℕ) (p : System) → IsProgramText t p → AreNames p.variables
names_differ t p h =
    let xs = lexemes t h.tokens in
    let words = variable_words false xs in
    let each = each_placed IsName [] words tt (names_read false xs (words_read t 0 t h.tokens refl h.scanned)) in
    record {
      are_names = each_index IsName p.variables (subst (Each IsName) (sym h.variables) each);
      differ = subst Differ (sym h.variables) (each_once [] words none_differ);
    }

first_label : (t : List ℕ) (p : System) (h : IsProgramText t p) → slice_index_or p.locations 0 [] ≡ h.start_label
first_label t p h =
    let w = h.start_label in
    let leading = leads w (w ∷ []) (label_words false (lexemes t h.tokens)) (record { behind = []; same = refl }) in
    ap (λ (ws : List Word). slice_index_or ws 0 []) (h.locations ∙ leading.same)

are_labels : (t : List ℕ) (p : System) → IsProgramText t p → AreLabels p.locations
are_labels t p h =
    let v : Vocabulary = record { variables = p.variables; labels = p.locations } in
    let xs = lexemes t h.tokens in
    let words = label_words false xs in
    let each = labels_read false xs (words_read t 0 t h.tokens refl h.scanned) in
    let known = items_variables (0 ∷ []) p.edges (symbols v xs) h.items in
    let start = start_among IsLabelWord p.locations 0 [] p.edges (symbols v xs) h.items (subst (Each IsLabelWord) (labels_are v false 0 xs known.1) each) in
    let leader = subst IsLabelWord (first_label t p h) start in
    each_index IsLabelWord p.locations (subst (Each IsLabelWord) (sym h.locations) (each_placed IsLabelWord (h.start_label ∷ []) words (leader, tt) each))

locations_differ : (t : List ℕ) (p : System) → IsProgramText t p → Differ p.locations
locations_differ t p h = subst Differ (sym h.locations) (each_once (h.start_label ∷ []) (label_words false (lexemes t h.tokens)) (one_differs h.start_label))

-- ---- the text that is written

pub read_program_again : (p : System) → IsProgramAgain p (program_text p)
read_program_again p t h =
    let v : Vocabulary = record { variables = p.variables; labels = p.locations } in
    let pieces = program_pieces p in
    let written = program_bytes p in
    let names = names_differ t p h in
    let differ = locations_differ t p h in
    let starts = below p.start (length p.locations) h.limits.starts in
    let old = lexemes t h.tokens in
    let new = lexemes (program_text p) (laid 0 pieces) in
    let writable = items_writable (0 ∷ []) p.edges (symbols v old) 0 h.items (symbols_numbered v false 0 old) in
    let derived = program_derived p names differ h.start (subst (λ (l : ℕ). l < length p.locations) h.start starts) h.limits.edges_fit writable in
    let items : IsItems p new = subst (λ (ss : List Symbol). AreItems (0 ∷ []) p.edges ss) (sym (laid_symbols v (program_text p) false 0 0 pieces (sym written))) derived in
    let first = first_label t p h in
    record {
      tokens = laid 0 pieces;
      scanned = subst (λ (text : List ℕ). IsTokens 0 text (laid 0 pieces)) written (laid_tokens 0 pieces (program_fronts p names (are_labels t p h) starts h.limits.edges_fit));
      items = items;
      start = h.start;
      start_label = h.start_label;
      locations = h.locations ∙ program_locations p h.start_label old first h.items ∙ sym (program_locations p h.start_label new first items);
      variables = h.variables ∙ ap (by_first_place []) (program_variables p old h.items ∙ sym (program_variables p new items));
      limits = h.limits;
    }
