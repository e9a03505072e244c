use Rattle.std.proofs.Common.{◌≡◌, ℕ, ◌+◌, List, [], ◌∷◌, ◌++◌, drop, sym, ap, ◌∙◌, append_assoc}
use Rattle.std.proofs.lemmas.List.{drop-drop}
use Rattle.tv_language.specs.declared.token.TokenKind.{TokenKind}
use Rattle.tv_language.specs.declared.token.Token.{Token}
use Rattle.tv_language.specs.declared.front.Front.TheVariants as fronts
use Rattle.tv_language.specs.Fronts.{front_of}
use Rattle.tv_language.specs.Tokens.{token, IsTokens, gap, solid}

pub after_gap : (at n : ℕ) (text rest : List ℕ) (ts us : List Token) → ((s : List Token) → IsTokens at (drop at text) s → IsTokens 0 text (ts ++ s)) → rest ≡ drop at text → fronts.Gap n ≡ front_of rest → IsTokens (at + n) (drop (at + n) text) us → IsTokens 0 text (ts ++ us)
after_gap at n text rest ts us before e h is = before us (gap n (ap front_of (sym e) ∙ sym h) (rw drop-drop is))

pub after_token : (at n : ℕ) (k : TokenKind) (ts us r : List Token) (text rest : List ℕ) → ((s : List Token) → IsTokens at (drop at text) s → IsTokens 0 text (ts ++ s))
    → us ≡ ts ++ token at n k ∷ [] → rest ≡ drop at text → fronts.Token k n ≡ front_of rest → IsTokens (at + n) (drop (at + n) text) r → IsTokens 0 text (us ++ r)
after_token at n k ts us r text rest before u e h is = rw (u, append_assoc ts (token at n k ∷ []) r) (before _ (solid k n (ap front_of (sym e) ∙ sym h) (rw drop-drop is)))

pub at_last : (at : ℕ) (ts us : List Token) (text : List ℕ) (t : Token) → ((s : List Token) → IsTokens at (drop at text) s → IsTokens 0 text (ts ++ s)) → us ≡ ts ++ t ∷ [] → IsTokens at (drop at text) (t ∷ []) → IsTokens 0 text us
at_last at ts us text t before u h = rw u (before (t ∷ []) h)
