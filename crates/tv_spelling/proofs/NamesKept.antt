-- Where reading begins with names, there are names after what it reads.
use Rattle.std.proofs.Common.{◌≡◌, ℕ, zero, suc, Bool, true, false, cond, List, [], ◌∷◌, length, drop, Some, refl, sym, subst, arith}
use Rattle.std.specs.Prelude.{slice_index_or, EachIndex, nat_lt}
use Rattle.tv_language.specs.declared.token.TokenKind.{TokenKind}
use Rattle.tv_language.specs.declared.token.TokenKind.TheVariants.{Name}
use Rattle.tv_language.specs.declared.token.Token.{Token}
use Rattle.tv_language.specs.Tokens.{IsTokens}
use Rattle.tv_program.specs.Words.{Word, words_with}
use Rattle.tv_language.specs.Symbols.{lexeme, lexemes}
use Rattle.tv_language.proofs.PlaceOfWords.{Each, each_once, each_placed, each_index}
use Rattle.tv_reading.specs.Marks.{Stand, names_behind, first, Passes, stay, pass}
use Rattle.tv_reading.proofs.PassedLemmas.{passes_kept}
use Rattle.tv_spelling.specs.ReadAgain.{IsName, AreNames}
use Rattle.tv_spelling.proofs.FrontWords.{IsWordOf, AreRead, words_read}

each_of : (P : Word → Type 0) (ws : List Word) → EachIndex ws (λ v. P (slice_index_or ws v [])) → Each P ws
each_of P [] h = tt
each_of P (w ∷ ws) h = (h 0 (omega arith), each_of P ws (λ v l. h (suc v) (omega arith)))

word_added : (w : Word) (names : List Word) → IsName w → AreNames names → AreNames (words_with w names)
word_added w names h k = record {
  are_names = each_index IsName (words_with w names) (each_placed IsName names (w ∷ []) (each_of IsName names k.are_names) (h, tt));
  differ = each_once names (w ∷ []) k.differ;
}

one_behind : (grows : Bool) (kind : TokenKind) (w : Word) (names : List Word) → IsWordOf kind w → AreNames names → AreNames (names_behind grows kind w names)
one_behind true Name w names h k = by (nat_lt (length names) 512)
  where
    by : (b : Bool) → AreNames (cond b (words_with w names) names)
    by true = word_added w names h k
    by false = k
one_behind false kind w names h k = k
one_behind true kind w names h k = k

none_in : (at : ℕ) (t : Token) → first (drop at []) ≡ Some t → ⊥
none_in zero t e = cc
none_in (suc at) t e = cc

word_at : (text : List ℕ) (ts : List Token) (at : ℕ) (t : Token) → first (drop at ts) ≡ Some t → AreRead (lexemes text ts) → IsWordOf t.kind (lexeme text t).word
word_at text [] at t e h = absurd (none_in at t e)
word_at text (x ∷ ts) zero t e h = let is : x ≡ t = cc in subst (λ (y : Token). IsWordOf y.kind (lexeme text y).word) is h.0
word_at text (x ∷ ts) (suc at) t e h = word_at text ts at t e h.1

names_by : {s u : Stand} → Passes s u → AreRead (lexemes s.text s.tokens) → AreNames s.names → AreNames u.names
names_by (stay s) h k = k
names_by (pass {s} {u} {t} p e) h k =
    let same = passes_kept s u p in
    let read : AreRead (lexemes u.text u.tokens) = subst (λ (x : List ℕ). AreRead (lexemes x u.tokens)) (sym same.text) (subst (λ (ts : List Token). AreRead (lexemes s.text ts)) (sym same.tokens) h) in
    one_behind u.grows t.kind (lexeme u.text t).word u.names (word_at u.text u.tokens u.at t e read) (names_by p h k)

pub names_kept : (s u : Stand) → Passes s u → IsTokens 0 s.text s.tokens → AreNames s.names → AreNames u.names
names_kept s u p scanned k = names_by p (words_read s.text 0 s.text s.tokens refl scanned) k
