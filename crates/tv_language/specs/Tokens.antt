use Rattle.std.specs.Prelude.{◌≡◌, ℕ, ◌+◌, Bool, true, false, List, [], ◌∷◌, drop, find, Option, None, Some, Result, Ok, Err, Vec}
use Rattle.std.specs.Global.{Global}
use Rattle.tv_language.specs.declared.token.TokenKind.{TokenKind}
use Rattle.tv_language.specs.declared.token.TokenKind.TheVariants.{End, Wide, Unread}
use Rattle.tv_language.specs.declared.token.Token.{Token}
use Rattle.tv_language.specs.declared.token.TokenFault.{TokenFault}
use Rattle.tv_language.specs.declared.token.TokenFault.TheVariants as faults
use Rattle.tv_language.specs.declared.front.Front.TheVariants as fronts
use Rattle.tv_language.specs.Fronts.{front_of}

abbrev pub token : ℕ → ℕ → TokenKind → Token
token at len kind = record { at = at; len = len; kind = kind }

-- The tokens of a text whose first byte has the place `at`. A wide number is a token too. The first byte that no token can hold
-- is the last token, of a kind that stands in no grammar.
pub data IsTokens : ℕ → List ℕ → List Token → Type 0 where
  end : {at : ℕ} {text : List ℕ} → front_of text ≡ fronts.End → IsTokens at text (token at 0 End ∷ [])
  gap : {at : ℕ} {text : List ℕ} {rest : List Token} (n : ℕ) → front_of text ≡ fronts.Gap n → IsTokens (at + n) (drop n text) rest → IsTokens at text rest
  solid : {at : ℕ} {text : List ℕ} {rest : List Token} (kind : TokenKind) (n : ℕ) → front_of text ≡ fronts.Token kind n → IsTokens (at + n) (drop n text) rest → IsTokens at text (token at n kind ∷ rest)
  unread : {at : ℕ} {text : List ℕ} → front_of text ≡ fronts.Unread → IsTokens at text (token at 0 Unread ∷ [])

-- whether the token is a wide number or a byte that no token can hold
abbrev pub is_fault_kind : TokenKind → Bool
is_fault_kind Wide = true
is_fault_kind Unread = true
is_fault_kind kind = false

abbrev pub is_fault : Token → Bool
is_fault t = is_fault_kind t.kind

-- the refusal for a fault
abbrev pub refusal_of : TokenKind → ℕ → TokenFault
refusal_of Wide at = faults.Wide at
refusal_of kind at = faults.Syntax at

-- what is answered for the tokens of a text: these, or the refusal for the first fault among them
abbrev pub answer_by : List Token → Option Token → Result (List Token) TokenFault
answer_by ts None = Ok ts
answer_by ts (Some t) = Err (refusal_of t.kind t.at)

abbrev pub answer_for : List Token → Result (List Token) TokenFault
answer_for ts = answer_by ts (find is_fault ts)

-- the answer is that for the tokens of the text, or memory runs out
abbrev pub IsAnswer : List ℕ → Result (Vec Token Global) TokenFault → Type 0
IsAnswer text (Ok list) = IsTokens 0 text list.items × (answer_for list.items ≡ Ok list.items)
IsAnswer text (Err faults.Memory) = Unit {0}
IsAnswer text (Err fault) = (ts : List Token) × IsTokens 0 text ts × (answer_for ts ≡ Err fault)
