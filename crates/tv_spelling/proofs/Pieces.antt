-- Texts as words, single spaces and line feeds: their bytes, their tokens and their symbols.
use Rattle.std.proofs.Common.{◌≡◌, ℕ, ◌+◌, Bool, true, false, List, [], ◌∷◌, ◌++◌, length, take, drop, refl, sym, ap, ◌∙◌}
use Rattle.std.proofs.lemmas.List.{drop-drop}
use Rattle.tv_language.specs.declared.token.TokenKind.{TokenKind}
use Rattle.tv_language.specs.declared.token.TokenKind.TheVariants.{LeftRound, RightRound, End}
use Rattle.tv_language.specs.declared.token.Token.{Token}
use Rattle.tv_language.specs.declared.front.Front.TheVariants as fronts
use Rattle.tv_language.specs.Fronts.{front_of}
use Rattle.tv_language.specs.WordTexts.{continues_name}
use Rattle.tv_language.specs.Tokens.{token, IsTokens, end, gap, solid}
use Rattle.tv_language.specs.Symbols.{Symbol, Vocabulary, lexemes, symbol_by, symbols_from, is_colon, draws_behind}
use Rattle.std.specs.Prelude.{slice_index}

-- a single space, a line feed, or a word of some kind
pub data Piece : Type 0 where
  blank : Piece
  line_feed : Piece
  word : TokenKind → List ℕ → Piece

abbrev pub bytes : List Piece → List ℕ
bytes [] = []
bytes (blank ∷ bs) = 32 ∷ bytes bs
bytes (line_feed ∷ bs) = 10 ∷ bytes bs
bytes (word kind w ∷ bs) = w ++ bytes bs

-- the tokens of the words, and that of the end
abbrev pub laid : ℕ → List Piece → List Token
laid at [] = token at 0 End ∷ []
laid at (blank ∷ bs) = laid (at + 1) bs
laid at (line_feed ∷ bs) = laid (at + 1) bs
laid at (word kind w ∷ bs) = token at (length w) kind ∷ laid (at + length w) bs

-- the symbols of the words, and that of the end
abbrev pub symbols_of : Vocabulary → Bool → ℕ → List Piece → List Symbol
symbols_of v behind_colon draws [] = symbol_by v behind_colon draws End [] ∷ []
symbols_of v behind_colon draws (blank ∷ bs) = symbols_of v behind_colon draws bs
symbols_of v behind_colon draws (line_feed ∷ bs) = symbols_of v behind_colon draws bs
symbols_of v behind_colon draws (word kind w ∷ bs) = symbol_by v behind_colon draws kind w ∷ symbols_of v (is_colon kind) (draws_behind kind draws) bs

-- each word is the token at the front of the text from there on
abbrev pub AreFronts : List Piece → Type 0
AreFronts [] = Unit {0}
AreFronts (blank ∷ bs) = AreFronts bs
AreFronts (line_feed ∷ bs) = AreFronts bs
AreFronts (word kind w ∷ bs) = (front_of (w ++ bytes bs) ≡ fronts.Token kind (length w)) × AreFronts bs

-- nothing that goes on with a name or a number stands at the front
pub record IsReady (bs : List Piece) : Type 0 where
  pub stops : continues_name (slice_index (bytes bs) 0) ≡ false
  pub fronts : AreFronts bs

pub dropped : (w x : List ℕ) → drop (length w) (w ++ x) ≡ x
dropped [] x = refl
dropped (b ∷ w) x = dropped w x

pub taken : (w x : List ℕ) → take (length w) (w ++ x) ≡ w
taken [] x = refl
taken (b ∷ w) x = ap (λ (r : List ℕ). b ∷ r) (taken w x)

pub laid_tokens : (at : ℕ) (bs : List Piece) → AreFronts bs → IsTokens at (bytes bs) (laid at bs)
unfolding front_of
laid_tokens at [] h = end refl
laid_tokens at (blank ∷ bs) h = gap 1 refl (laid_tokens (at + 1) bs h)
laid_tokens at (line_feed ∷ bs) h = gap 1 refl (laid_tokens (at + 1) bs h)
laid_tokens at (word kind w ∷ bs) h = solid kind (length w) h.0 (rw (dropped w (bytes bs)) (laid_tokens (at + length w) bs h.1))

pub further : (text w x : List ℕ) (at : ℕ) → drop at text ≡ w ++ x → drop (at + length w) text ≡ x
further text w x at h = sym (drop-drop (length w) at text) ∙ ap (drop (length w)) h ∙ dropped w x

pub laid_symbols : (v : Vocabulary) (text : List ℕ) (behind_colon : Bool) (draws at : ℕ) (bs : List Piece) → drop at text ≡ bytes bs
    → symbols_from v behind_colon draws (lexemes text (laid at bs)) ≡ symbols_of v behind_colon draws bs
laid_symbols v text b draws at [] h = refl
laid_symbols v text b draws at (blank ∷ bs) h = laid_symbols v text b draws (at + 1) bs (further text (32 ∷ []) (bytes bs) at h)
laid_symbols v text b draws at (line_feed ∷ bs) h = laid_symbols v text b draws (at + 1) bs (further text (10 ∷ []) (bytes bs) at h)
laid_symbols v text b draws at (word kind w ∷ bs) h =
    let here : take (length w) (drop at text) ≡ w = ap (take (length w)) h ∙ taken w (bytes bs) in
    ap (λ (u : List ℕ). symbol_by v b draws kind u ∷ symbols_from v (is_colon kind) (draws_behind kind draws) (lexemes text (laid (at + length w) bs))) here
    ∙ ap (λ (ss : List Symbol). symbol_by v b draws kind w ∷ ss) (laid_symbols v text (is_colon kind) (draws_behind kind draws) (at + length w) bs (further text w (bytes bs) at h))

-- brackets round some pieces, or none
abbrev pub bracket_pieces : Bool → (List Piece → List Piece) → List Piece → List Piece
bracket_pieces true inner rest = word LeftRound (40 ∷ []) ∷ inner (word RightRound (41 ∷ []) ∷ rest)
bracket_pieces false inner rest = inner rest
