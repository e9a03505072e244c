use Rattle.std.specs.Prelude.{ℕ, zero, suc, ◌+◌, ◌^◌, ◌<◌, ◌≤◌, Bool, ◌&&◌, List, [], ◌∷◌, take, drop, Option, Some, None, slice_index, nat_le, ◌==◌, if◌then◌else◌}
use Rattle.std.specs.List.{prefix_len, position}
use Rattle.std.specs.Char.{is_ascii_digit}
use Rattle.std.specs.Option.{option_map}
use Rattle.tv_language.specs.declared.token.TokenKind.{TokenKind}
use Rattle.tv_language.specs.declared.token.TokenKind.TheVariants.{At, Cutpoint, Error, Shadow, Assign, LessEqual, GreaterEqual, Equal, NotEqual, And, Or, Colon, Semicolon, LeftRound, RightRound, LeftSquare, RightSquare, Plus, Minus, Star, Less, Greater, Not, Number, Mark, Passed, Wide}
use Rattle.tv_language.specs.declared.front.Front.{Front}
use Rattle.tv_language.specs.declared.front.Front.TheVariants.{End, Gap, Token, Unread}
use Rattle.tv_language.specs.Gaps.{gap_of, gap_length}
use Rattle.tv_language.specs.Numbers.{value_of_digits}
use Rattle.tv_language.specs.WordTexts.{begins_name, continues_name, word_kind}

-- how many bytes there are up to the first `close` after the blanks, the comments and the byte `opening`
abbrev pub span : ℕ → ℕ → List ℕ → Option ℕ
span opening close text =
    if slice_index (drop (gap_length text) text) 0 == opening
    then option_map (λ n. gap_length text + 1 + n + 1) (position (λ b. b == close) (drop 1 (drop (gap_length text) text)))
    else None

abbrev pub end_by : Bool → ℕ → ℕ
end_by b zero = if b then 1 else 0
end_by b (suc n) = suc (suc n)

-- the place after the last such byte, 0 where there is none
abbrev pub end_of_last : ℕ → List ℕ → ℕ
end_of_last close [] = 0
end_of_last close (b ∷ bs) = end_by (b == close) (end_of_last close bs)

-- a word with what belongs to it up to a closing byte, or the bare word where there is no such byte
abbrev pub section : TokenKind → TokenKind → ℕ → Option ℕ → Front
section whole bare n None = Token bare n
section whole bare n (Some more) = Token whole (n + more)

-- what a word of n bytes is, with the text after it
abbrev pub word_front : TokenKind → ℕ → List ℕ → Front
word_front Cutpoint n rest = section Passed Cutpoint n (span 58 59 rest)
word_front Error n rest = section Passed Error n (span 58 59 rest)
word_front Shadow n rest = section Passed Shadow n (span 58 59 rest)
word_front At n rest = section Mark At n (span 40 41 rest)
word_front kind n rest = Token kind n

-- a number of n digits
abbrev pub number_front : ℕ → List ℕ → Front
number_front n digits = if nat_le (2 ^ 62) (value_of_digits digits) then Token Wide n else Token Number n

-- the symbol of one byte
abbrev pub single_front : ℕ → Front
single_front b =
    if b == 58 then Token Colon 1
    else (if b == 60 then Token Less 1
    else (if b == 62 then Token Greater 1
    else (if b == 33 then Token Not 1
    else (if b == 59 then Token Semicolon 1
    else (if b == 40 then Token LeftRound 1
    else (if b == 41 then Token RightRound 1
    else (if b == 91 then Token LeftSquare 1
    else (if b == 93 then Token RightSquare 1
    else (if b == 43 then Token Plus 1
    else (if b == 45 then Token Minus 1
    else (if b == 42 then Token Star 1
    else Unread)))))))))))

-- the symbol of two bytes, or that of the first of them where they make none
abbrev pub symbol_front : ℕ → ℕ → Front
symbol_front b c =
    if b == 58 && c == 61 then Token Assign 2
    else (if b == 60 && c == 61 then Token LessEqual 2
    else (if b == 62 && c == 61 then Token GreaterEqual 2
    else (if b == 61 && c == 61 then Token Equal 2
    else (if b == 33 && c == 61 then Token NotEqual 2
    else (if b == 38 && c == 38 then Token And 2
    else (if b == 124 && c == 124 then Token Or 2
    else single_front b))))))

abbrev pub solid_front : ℕ → List ℕ → Front
solid_front b bs =
    if begins_name b then word_front (word_kind (take (1 + prefix_len continues_name bs) (b ∷ bs))) (1 + prefix_len continues_name bs) (drop (prefix_len continues_name bs) bs)
    else (if is_ascii_digit b then number_front (prefix_len is_ascii_digit (b ∷ bs)) (take (prefix_len is_ascii_digit (b ∷ bs)) (b ∷ bs))
    else symbol_front b (slice_index bs 0))

abbrev pub gap_or : Option ℕ → Front → Front
gap_or None front = front
gap_or (Some n) front = Gap n

-- what stands at the front of a text
unfoldable pub front_of : List ℕ → Front
front_of [] = End
front_of (b ∷ bs) = gap_or (gap_of (b ∷ bs)) (solid_front b bs)

-- a gap or a token has a length, within the text
abbrev pub Fits : ℕ → Front → Type 0
Fits len (Gap n) = (0 < n) × (n ≤ len)
Fits len (Token k n) = (0 < n) × (n ≤ len)
Fits len End = Unit {0}
Fits len Unread = Unit {0}
