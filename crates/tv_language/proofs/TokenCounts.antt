-- How many tokens a text has, and that nothing stands after its end.
use Rattle.std.proofs.Common.{◌≡◌, ℕ, ◌+◌, ◌<◌, ◌≤◌, Bool, true, false, List, [], ◌∷◌, ◌++◌, length, drop, take, Option, Some, None, refl, sym, ap, subst, ◌∙◌, cond, arith, length-drop}
use Rattle.std.specs.Prelude.{◌==◌, ◌&&◌, ◌^◌, nat_le, slice_index}
use Rattle.std.specs.List.{prefix_len}
use Rattle.std.specs.Char.{is_ascii_digit}
use Rattle.std.specs.Str.{bytes_eq}
use Rattle.std.specs.Prelude.{codes}
use Rattle.tv_language.specs.declared.token.TokenKind.{TokenKind}
use Rattle.tv_language.specs.declared.token.TokenKind.TheVariants as kinds
use Rattle.tv_language.specs.declared.token.Token.{Token}
use Rattle.tv_language.specs.declared.front.Front.{Front}
use Rattle.tv_language.specs.declared.front.Front.TheVariants as fronts
use Rattle.tv_language.specs.Gaps.{gap_of}
use Rattle.tv_language.specs.Numbers.{value_of_digits}
use Rattle.tv_language.specs.WordTexts.{begins_name, continues_name, command_kind, word_kind}
use Rattle.tv_language.specs.Fronts.{span, section, word_front, number_front, single_front, symbol_front, solid_front, gap_or, front_of}
use Rattle.tv_language.specs.Tokens.{token, IsTokens, end, gap, solid, unread}

abbrev pub is_end : TokenKind → Bool
is_end kinds.End = true
is_end kind = false

-- a token has a length, and it is no end of the text
abbrev IsProper : Front → Type 0
IsProper (fronts.Token kind n) = (0 < n) × (is_end kind ≡ false)
IsProper front = Unit {0}

either_proper : (b : Bool) (x y : Front) → IsProper x → IsProper y → IsProper (cond b x y)
either_proper true x y h i = h
either_proper false x y h i = i

either_kind : (b : Bool) (k j : TokenKind) → is_end k ≡ false → is_end j ≡ false → is_end (cond b k j) ≡ false
either_kind true k j h i = h
either_kind false k j h i = i

command_proper : (w : List ℕ) → is_end (command_kind w) ≡ false
command_proper w = either_kind (bytes_eq w (codes "PROCESS")) _ _ refl (either_kind (bytes_eq w (codes "assume")) _ _ refl (either_kind (bytes_eq w (codes "nondet")) _ _ refl (either_kind (bytes_eq w (codes "true")) _ _ refl (either_kind (bytes_eq w (codes "false")) _ _ refl refl))))

word_proper : (w : List ℕ) → is_end (word_kind w) ≡ false
word_proper w = either_kind (bytes_eq w (codes "START")) _ _ refl (either_kind (bytes_eq w (codes "FROM")) _ _ refl (either_kind (bytes_eq w (codes "TO")) _ _ refl (either_kind (bytes_eq w (codes "AT")) _ _ refl (either_kind (bytes_eq w (codes "CUTPOINT")) _ _ refl (either_kind (bytes_eq w (codes "ERROR")) _ _ refl (either_kind (bytes_eq w (codes "SHADOW")) _ _ refl (command_proper w)))))))

section_proper : (whole bare : TokenKind) (n : ℕ) (more : Option ℕ) → is_end whole ≡ false → is_end bare ≡ false → 0 < n → IsProper (section whole bare n more)
section_proper whole bare n None h i l = (l, i)
section_proper whole bare n (Some more) h i l = (omega arith, h)

front_proper : (kind : TokenKind) (n : ℕ) (rest : List ℕ) → is_end kind ≡ false → 0 < n → IsProper (word_front kind n rest)
front_proper kinds.Cutpoint n rest h l = section_proper kinds.Passed kinds.Cutpoint n (span 58 59 rest) refl refl l
front_proper kinds.Error n rest h l = section_proper kinds.Passed kinds.Error n (span 58 59 rest) refl refl l
front_proper kinds.Shadow n rest h l = section_proper kinds.Passed kinds.Shadow n (span 58 59 rest) refl refl l
front_proper kinds.At n rest h l = section_proper kinds.Mark kinds.At n (span 40 41 rest) refl refl l
front_proper kind n rest h l = (l, h)

number_proper : (n : ℕ) (digits : List ℕ) → 0 < n → IsProper (number_front n digits)
number_proper n digits l = either_proper (nat_le (2 ^ 62) (value_of_digits digits)) (fronts.Token kinds.Wide n) (fronts.Token kinds.Number n) (l, refl) (l, refl)

one_byte : (kind : TokenKind) → is_end kind ≡ false → IsProper (fronts.Token kind 1)
one_byte kind e = (omega arith, e)

two_bytes : (kind : TokenKind) → is_end kind ≡ false → IsProper (fronts.Token kind 2)
two_bytes kind e = (omega arith, e)

single_proper : (b : ℕ) → IsProper (single_front b)
single_proper b =
    either_proper (b == 58) _ _ (one_byte kinds.Colon refl) (either_proper (b == 60) _ _ (one_byte kinds.Less refl) (either_proper (b == 62) _ _ (one_byte kinds.Greater refl)
    (either_proper (b == 33) _ _ (one_byte kinds.Not refl) (either_proper (b == 59) _ _ (one_byte kinds.Semicolon refl) (either_proper (b == 40) _ _ (one_byte kinds.LeftRound refl)
    (either_proper (b == 41) _ _ (one_byte kinds.RightRound refl) (either_proper (b == 91) _ _ (one_byte kinds.LeftSquare refl) (either_proper (b == 93) _ _ (one_byte kinds.RightSquare refl)
    (either_proper (b == 43) _ _ (one_byte kinds.Plus refl) (either_proper (b == 45) _ _ (one_byte kinds.Minus refl) (either_proper (b == 42) _ _ (one_byte kinds.Star refl) tt)))))))))))

symbol_proper : (b c : ℕ) → IsProper (symbol_front b c)
symbol_proper b c =
    either_proper (b == 58 && c == 61) _ _ (two_bytes kinds.Assign refl) (either_proper (b == 60 && c == 61) _ _ (two_bytes kinds.LessEqual refl) (either_proper (b == 62 && c == 61) _ _ (two_bytes kinds.GreaterEqual refl)
    (either_proper (b == 61 && c == 61) _ _ (two_bytes kinds.Equal refl) (either_proper (b == 33 && c == 61) _ _ (two_bytes kinds.NotEqual refl) (either_proper (b == 38 && c == 38) _ _ (two_bytes kinds.And refl)
    (either_proper (b == 124 && c == 124) _ _ (two_bytes kinds.Or refl) (single_proper b)))))))

digits_proper : (d : Bool) (b : ℕ) (bs digits : List ℕ) → is_ascii_digit b ≡ d → IsProper (cond d (number_front (prefix_len is_ascii_digit (b ∷ bs)) digits) (symbol_front b (slice_index bs 0)))
digits_proper true b bs digits e = number_proper (prefix_len is_ascii_digit (b ∷ bs)) digits (some e)
  where
    some : is_ascii_digit b ≡ true → 0 < prefix_len is_ascii_digit (b ∷ bs)
    some e = rw e (omega arith)
digits_proper false b bs digits e = symbol_proper b (slice_index bs 0)

solid_proper : (b : ℕ) (bs : List ℕ) → IsProper (solid_front b bs)
solid_proper b bs =
    either_proper (begins_name b) _ _
    (front_proper (word_kind (take (1 + prefix_len continues_name bs) (b ∷ bs))) (1 + prefix_len continues_name bs) (drop (prefix_len continues_name bs) bs) (word_proper (take (1 + prefix_len continues_name bs) (b ∷ bs))) (omega arith))
    (digits_proper (is_ascii_digit b) b bs (take (prefix_len is_ascii_digit (b ∷ bs)) (b ∷ bs)) refl)

or_gap : (o : Option ℕ) (f : Front) → IsProper f → IsProper (gap_or o f)
or_gap None f h = h
or_gap (Some n) f h = tt

proper : (text : List ℕ) → IsProper (front_of text)
unfolding front_of
proper [] = tt
proper (b ∷ bs) = or_gap (gap_of (b ∷ bs)) (solid_front b bs) (solid_proper b bs)

token_proper : (text : List ℕ) (kind : TokenKind) (n : ℕ) → front_of text ≡ fronts.Token kind n → (0 < n) × (is_end kind ≡ false)
token_proper text kind n e = subst IsProper e (proper text)

some_byte : (text : List ℕ) (kind : TokenKind) (n : ℕ) → front_of text ≡ fronts.Token kind n → 0 < length text
unfolding front_of
some_byte [] kind n e = absurd cc
some_byte (b ∷ bs) kind n e = omega arith

-- a text of n bytes has n + 1 tokens at most
pub few_tokens : (at : ℕ) (text : List ℕ) (ts : List Token) → IsTokens at text ts → length ts ≤ length text + 1
few_tokens at text ts (end h) = omega arith
few_tokens at text ts (unread h) = omega arith
few_tokens at text ts (gap n h p) = let l = few_tokens _ _ _ p in omega (arith, length-drop n text)
few_tokens at text ts (solid kind n h p) = let l = few_tokens _ _ _ p in let w = token_proper text kind n h in let s = some_byte text kind n h in omega (arith, length-drop n text, w.0)

-- the end of a text is the last of its tokens
pub last_token : (at : ℕ) (text : List ℕ) (ts before : List Token) (t : Token) (behind : List Token) → IsTokens at text ts → ts ≡ before ++ (t ∷ behind) → is_end t.kind ≡ true → behind ≡ []
last_token at text ts [] t behind (end h) e is = cc
last_token at text ts [] t behind (unread h) e is = cc
last_token at text ts before t behind (gap n h p) e is = last_token _ _ _ before t behind p e is
last_token at text ts [] t behind (solid kind n h p) e is =
    let same : token at n kind ≡ t = cc in
    let no : is_end kind ≡ false = (token_proper text kind n h).1 in
    absurd (not_end (sym no ∙ ap (λ (u : Token). is_end u.kind) same ∙ is))
  where
    not_end : false ≡ true → ⊥
    not_end e = cc
last_token at text ts (u ∷ []) t behind (end h) e is = absurd cc
last_token at text ts (u ∷ v ∷ before) t behind (end h) e is = absurd cc
last_token at text ts (u ∷ []) t behind (unread h) e is = absurd cc
last_token at text ts (u ∷ v ∷ before) t behind (unread h) e is = absurd cc
last_token at text ts (u ∷ before) t behind (solid kind n h p) e is = last_token _ _ _ before t behind p (cc) is
