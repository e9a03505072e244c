-- The words of a text are those of the variables and locations that its symbols name.
use Rattle.std.proofs.Common.{◌≡◌, ℕ, Bool, true, false, List, [], ◌∷◌, Option, None, Some, refl, ap, sym, ◌∙◌}
use Rattle.std.specs.Prelude.{slice_index_or}
use Rattle.tv_language.specs.declared.token.TokenKind.{TokenKind}
use Rattle.tv_language.specs.declared.token.TokenKind.TheVariants.{Name, Number, Unread}
use Rattle.tv_program.specs.Words.{Word, number_of}
use Rattle.tv_language.specs.Symbols.{Symbol, fixed, name, label, numbered, Vocabulary, Lexeme, symbol_by, symbols_from, is_colon, draws_behind, variable_by, label_by, variable_words, label_words}
use Rattle.tv_language.proofs.PlaceOfWords.{found}
use Rattle.tv_spelling.proofs.Mentioned.{variables_in, locations_in, AreKnown}

-- the words at these places
abbrev pub words_at : List Word → List ℕ → List Word
words_at ws [] = []
words_at ws (n ∷ ns) = slice_index_or ws n [] ∷ words_at ws ns

known_behind : (s : Symbol) (ss : List Symbol) → AreKnown (s ∷ ss) → AreKnown ss
known_behind (fixed Unread) ss h = absurd h
known_behind s ss h = h

-- ---- variables

past_label : (v : Vocabulary) (o : Option ℕ) (ss : List Symbol) (ws : List Word) → AreKnown (numbered label o ∷ ss) → ws ≡ words_at v.variables (variables_in ss) → ws ≡ words_at v.variables (variables_in (numbered label o ∷ ss))
past_label v None ss ws h e = absurd h
past_label v (Some n) ss ws h e = e

at_name : (v : Vocabulary) (w : Word) (o : Option ℕ) (ss : List Symbol) (ws : List Word) → number_of w v.variables ≡ o → AreKnown (numbered name o ∷ ss) → ws ≡ words_at v.variables (variables_in ss) → (w ∷ ws) ≡ words_at v.variables (variables_in (numbered name o ∷ ss))
at_name v w None ss ws is h e = absurd h
at_name v w (Some n) ss ws is h e = ap (λ (u : Word). u ∷ ws) (sym (found w v.variables n is)) ∙ ap (λ (us : List Word). slice_index_or v.variables n [] ∷ us) e

variable_here : (v : Vocabulary) (behind_colon : Bool) (draws : ℕ) (kind : TokenKind) (w : Word) (ss : List Symbol) (ws : List Word) → AreKnown (symbol_by v behind_colon draws kind w ∷ ss) → ws ≡ words_at v.variables (variables_in ss)
    → variable_by behind_colon kind w ws ≡ words_at v.variables (variables_in (symbol_by v behind_colon draws kind w ∷ ss))
variable_here v true draws Name w ss ws h e = past_label v (number_of w v.labels) ss ws h e
variable_here v true draws Number w ss ws h e = past_label v (number_of w v.labels) ss ws h e
variable_here v false draws Name w ss ws h e = at_name v w (number_of w v.variables) ss ws refl h e
variable_here v true draws kind w ss ws h e = e
variable_here v false draws kind w ss ws h e = e

pub variables_are : (v : Vocabulary) (behind_colon : Bool) (draws : ℕ) (xs : List Lexeme) → AreKnown (symbols_from v behind_colon draws xs) → variable_words behind_colon xs ≡ words_at v.variables (variables_in (symbols_from v behind_colon draws xs))
variables_are v b draws [] h = refl
variables_are v b draws (x ∷ xs) h =
    let ss = symbols_from v (is_colon x.kind) (draws_behind x.kind draws) xs in
    variable_here v b draws x.kind x.word ss (variable_words (is_colon x.kind) xs) h (variables_are v (is_colon x.kind) (draws_behind x.kind draws) xs (known_behind (symbol_by v b draws x.kind x.word) ss h))

-- ---- locations

at_label : (v : Vocabulary) (w : Word) (o : Option ℕ) (ss : List Symbol) (ws : List Word) → number_of w v.labels ≡ o → AreKnown (numbered label o ∷ ss) → ws ≡ words_at v.labels (locations_in ss) → (w ∷ ws) ≡ words_at v.labels (locations_in (numbered label o ∷ ss))
at_label v w None ss ws is h e = absurd h
at_label v w (Some n) ss ws is h e = ap (λ (u : Word). u ∷ ws) (sym (found w v.labels n is)) ∙ ap (λ (us : List Word). slice_index_or v.labels n [] ∷ us) e

past_name : (v : Vocabulary) (o : Option ℕ) (ss : List Symbol) (ws : List Word) → AreKnown (numbered name o ∷ ss) → ws ≡ words_at v.labels (locations_in ss) → ws ≡ words_at v.labels (locations_in (numbered name o ∷ ss))
past_name v None ss ws h e = absurd h
past_name v (Some n) ss ws h e = e

label_here : (v : Vocabulary) (behind_colon : Bool) (draws : ℕ) (kind : TokenKind) (w : Word) (ss : List Symbol) (ws : List Word) → AreKnown (symbol_by v behind_colon draws kind w ∷ ss) → ws ≡ words_at v.labels (locations_in ss)
    → label_by behind_colon kind w ws ≡ words_at v.labels (locations_in (symbol_by v behind_colon draws kind w ∷ ss))
label_here v true draws Name w ss ws h e = at_label v w (number_of w v.labels) ss ws refl h e
label_here v true draws Number w ss ws h e = at_label v w (number_of w v.labels) ss ws refl h e
label_here v false draws Name w ss ws h e = past_name v (number_of w v.variables) ss ws h e
label_here v true draws kind w ss ws h e = e
label_here v false draws kind w ss ws h e = e

pub labels_are : (v : Vocabulary) (behind_colon : Bool) (draws : ℕ) (xs : List Lexeme) → AreKnown (symbols_from v behind_colon draws xs) → label_words behind_colon xs ≡ words_at v.labels (locations_in (symbols_from v behind_colon draws xs))
labels_are v b draws [] h = refl
labels_are v b draws (x ∷ xs) h =
    let ss = symbols_from v (is_colon x.kind) (draws_behind x.kind draws) xs in
    label_here v b draws x.kind x.word ss (label_words (is_colon x.kind) xs) h (labels_are v (is_colon x.kind) (draws_behind x.kind draws) xs (known_behind (symbol_by v b draws x.kind x.word) ss h))
