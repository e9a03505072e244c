use Rattle.std.proofs.Common.{◌≡◌, ℕ, ◌+◌, List, ap, sym, ◌∙◌, refl, subst, ◌∷◌, drop}
use Rattle.tv_language.specs.declared.token.TokenKind.{TokenKind}
use Rattle.tv_language.specs.declared.token.Token.{Token}
use Rattle.tv_language.specs.declared.front.Front.TheVariants as fronts
use Rattle.tv_language.specs.Fronts.{front_of}
use Rattle.tv_language.specs.Tokens.{token, IsTokens, end, gap, solid, unread}

same_gap : (n m : ℕ) (text : List ℕ) → front_of text ≡ fronts.Gap n → front_of text ≡ fronts.Gap m → n ≡ m
same_gap n m text h k = cc

same_kind : (a b : TokenKind) (n m : ℕ) (text : List ℕ) → front_of text ≡ fronts.Token a n → front_of text ≡ fronts.Token b m → a ≡ b
same_kind a b n m text h k = cc

same_length : (a b : TokenKind) (n m : ℕ) (text : List ℕ) → front_of text ≡ fronts.Token a n → front_of text ≡ fronts.Token b m → n ≡ m
same_length a b n m text h k = cc

moved : (at n m : ℕ) (text : List ℕ) (us : List Token) → n ≡ m → IsTokens (at + m) (drop m text) us → IsTokens (at + n) (drop n text) us
moved at n m text us e q = subst (λ k. IsTokens (at + k) (drop k text) us) (sym e) q

-- no text has two lists of tokens
pub one_list : (at : ℕ) (text : List ℕ) (ts us : List Token) → IsTokens at text ts → IsTokens at text us → ts ≡ us
one_list at text ts us (end h) (end k) = refl
one_list at text ts us (end h) (gap m k q) = cc
one_list at text ts us (end h) (solid b m k q) = cc
one_list at text ts us (end h) (unread k) = cc
one_list at text ts us (gap n h p) (end k) = cc
one_list at text ts us (gap n h p) (gap m k q) = one_list _ _ _ _ p (moved at n m text us (same_gap n m text h k) q)
one_list at text ts us (gap n h p) (solid b m k q) = cc
one_list at text ts us (gap n h p) (unread k) = cc
one_list at text ts us (solid a n h p) (end k) = cc
one_list at text ts us (solid a n h p) (gap m k q) = cc
one_list at text ts us (solid a n h p) (solid b m k q) =
    let rest = one_list _ _ _ _ p (moved at n m text _ (same_length a b n m text h k) q) in
    ap (λ r. token at n a ∷ r) rest ∙ rw (same_kind a b n m text h k, same_length a b n m text h k) refl
one_list at text ts us (solid a n h p) (unread k) = cc
one_list at text ts us (unread h) (end k) = cc
one_list at text ts us (unread h) (gap m k q) = cc
one_list at text ts us (unread h) (solid b m k q) = cc
one_list at text ts us (unread h) (unread k) = refl
