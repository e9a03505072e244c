-- A line that is written is read again.
use Rattle.std.proofs.Common.{◌≡◌, ℕ, zero, suc, ◌-◌, ◌≤◌, ℤ, Bool, true, false, cond, List, [], ◌∷◌, ◌++◌, length, map, get_or, refl, ap, ◌∙◌, arith}
use Rattle.std.specs.Prelude.{nat_lt, ◌&&◌, All, ◌==◌, Some}
use Rattle.std.specs.List.{list_all}
use Rattle.std.specs.Fmt.{signed_decimal}
use Rattle.std.proofs.lemmas.Bool.Decides.{nat_tests}
use Rattle.std.proofs.lemmas.List.{length-map}
use Rattle.std.proofs.lemmas.List.Elements.{All-head, All-tail}
use Rattle.std.proofs.lemmas.List.Folds.{list_all-append}
use Rattle.tv_lines.specs.declared.head.Head.{Head}
use Rattle.tv_lines.specs.declared.head.Head.TheVariants as heads
use Rattle.tv_lines.specs.declared.head.NodeKind.{NodeKind}
use Rattle.tv_lines.specs.declared.head.NodeKind.TheVariants as kinds
use Rattle.tv_lines.specs.declared.head.PieceMark.{PieceMark}
use Rattle.tv_lines.specs.declared.head.PieceMark.TheVariants as marks
use Rattle.tv_lines.specs.Pieces.{pieces, onto, joined}
use Rattle.tv_lines.specs.Numbers.{IsNarrow}
use Rattle.tv_lines.specs.Heads.{kind_word, kind_of, mark_word, mark_of}
use Rattle.tv_lines.specs.Lines.{PlainLine, formed, numbered, counted, worded, line_of, without_return, lines_of, FitsHead}
use Rattle.tv_lines.specs.Writing.{line_words, spelling}
use Rattle.tv_lines.proofs.NumberAgain.{Above, numbers_again, signed_above}
use Rattle.tv_lines.proofs.TextLemmas.{ended_line}

-- ---- words between single spaces, and lines between LFs

byte_other : (k c b : ℕ) → c ≤ k → nat_lt k b ≡ true → (b == c) ≡ false
byte_other k c b h n = grind (arith, nat_tests)

-- bytes above c are one piece
pub piece_front : (k c : ℕ) → c ≤ k → (w rest : List ℕ) → Above k w → pieces c (w ++ c ∷ rest) ≡ w ∷ pieces c rest
unfolding pieces
piece_front k c le [] rest h = let e : (c == c) ≡ true = grind (arith, nat_tests) in rw e refl
piece_front k c le (b ∷ w) rest h = by (nat_lt k b) refl h (piece_front k c le w rest)
  where
    by : (t : Bool) → nat_lt k b ≡ t → (t && list_all (nat_lt k) w) ≡ true → (Above k w → pieces c (w ++ c ∷ rest) ≡ w ∷ pieces c rest)
        → cond (b == c) ([] ∷ pieces c (w ++ c ∷ rest)) (onto b (pieces c (w ++ c ∷ rest))) ≡ (b ∷ w) ∷ pieces c rest
    by true e h again = rw (byte_other k c b le e) (ap (onto b) (again h))
    by false e h again = absurd cc

piece_last : (k c : ℕ) → c ≤ k → (w : List ℕ) → Above k w → pieces c w ≡ w ∷ []
unfolding pieces
piece_last k c le [] h = refl
piece_last k c le (b ∷ w) h = by (nat_lt k b) refl h (piece_last k c le w)
  where
    by : (t : Bool) → nat_lt k b ≡ t → (t && list_all (nat_lt k) w) ≡ true → (Above k w → pieces c w ≡ w ∷ [])
        → cond (b == c) ([] ∷ pieces c w) (onto b (pieces c w)) ≡ (b ∷ w) ∷ []
    by true e h again = rw (byte_other k c b le e) (ap (onto b) (again h))
    by false e h again = absurd cc

-- no byte of the words is a space or stands below one
abbrev AreWords : List (List ℕ) → Type 0
AreWords [] = Unit {0}
AreWords (w ∷ ws) = Above 32 w × AreWords ws

pieces_again : (w : List ℕ) (ws : List (List ℕ)) → AreWords (w ∷ ws) → pieces 32 (joined 32 (w ∷ ws)) ≡ w ∷ ws
pieces_again w [] h = piece_last 32 32 (omega arith) w h.0
pieces_again w (v ∷ ws) h = piece_front 32 32 (omega arith) w (joined 32 (v ∷ ws)) h.0 ∙ ap (λ (ps : List (List ℕ)). w ∷ ps) (pieces_again v ws h.1)

worded_again : (ws : List (List ℕ)) → AreWords ws → worded (pieces 32 (joined 32 ws)) ≡ worded ws
unfolding pieces
worded_again [] h = refl
worded_again (w ∷ ws) h = ap worded (pieces_again w ws h)

byte_above : (b : ℕ) → nat_lt 32 b ≡ true → nat_lt 31 b ≡ true
byte_above b h = grind (arith, nat_tests)

word_above : (w : List ℕ) → Above 32 w → Above 31 w
word_above [] h = refl
word_above (b ∷ w) h = by (nat_lt 32 b) refl h (word_above w)
  where
    by : (t : Bool) → nat_lt 32 b ≡ t → (t && list_all (nat_lt 32) w) ≡ true → (Above 32 w → Above 31 w) → (nat_lt 31 b && list_all (nat_lt 31) w) ≡ true
    by true e h again = rw (byte_above b e, again h) refl
    by false e h again = absurd cc

joined_above : (ws : List (List ℕ)) → AreWords ws → Above 31 (joined 32 ws)
joined_above [] h = refl
joined_above (w ∷ []) h = word_above w h.0
joined_above (w ∷ v ∷ ws) h = rw (list_all-append (nat_lt 31) w (32 ∷ joined 32 (v ∷ ws)), word_above w h.0, joined_above (v ∷ ws) h.1) refl

no_return : (bytes : List ℕ) (i : ℕ) → Above 31 bytes → (get_or bytes i 0 == 13) ≡ false
no_return [] i h = refl
no_return (b ∷ bytes) i h = by (nat_lt 31 b) refl h i (no_return bytes)
  where
    by : (t : Bool) → nat_lt 31 b ≡ t → (t && list_all (nat_lt 31) bytes) ≡ true → (j : ℕ) → ((j : ℕ) → Above 31 bytes → (get_or bytes j 0 == 13) ≡ false) → (get_or (b ∷ bytes) j 0 == 13) ≡ false
    by true e h zero again = byte_other 31 13 b (omega arith) e
    by true e h (suc j) again = again j h
    by false e h j again = absurd cc

-- ---- the words of a line

numbers_are_words : (zs : List ℤ) → All IsNarrow zs → AreWords (map signed_decimal zs)
numbers_are_words [] h = tt
numbers_are_words (z ∷ zs) h = (signed_above z (All-head IsNarrow z zs h), numbers_are_words zs (All-tail IsNarrow z zs h))

kind_above : (kind : NodeKind) → Above 32 (kind_word kind)
kind_above kinds.Atom = refl
kind_above _ = refl

mark_above : (mark : PieceMark) → Above 32 (mark_word mark)
mark_above marks.Done = refl
mark_above marks.Go = refl

are_words : (head : Head) (zs : List ℤ) → All IsNarrow zs → AreWords (line_words head zs)
are_words heads.Header zs h = (refl, (refl, numbers_are_words zs h))
are_words (heads.Node kind) zs h = (refl, (kind_above kind, numbers_are_words zs h))
are_words (heads.Piece mark) [] h = (refl, (mark_above mark, tt))
are_words (heads.Piece mark) (z ∷ zs) h = (refl, (signed_above z (All-head IsNarrow z zs h), (mark_above mark, numbers_are_words zs (All-tail IsNarrow z zs h))))
are_words _ zs h = (refl, numbers_are_words zs h)

kind_again : (kind : NodeKind) → kind_of (kind_word kind) ≡ Some kind
kind_again kinds.Atom = refl
kind_again _ = refl

mark_again : (mark : PieceMark) → mark_of (mark_word mark) ≡ Some mark
mark_again marks.Done = refl
mark_again marks.Go = refl

-- ---- the line

numbered_again : (head : Head) (zs : List ℤ) → All IsNarrow zs → numbered head (map signed_decimal zs) ≡ formed head zs
numbered_again head zs h = let again = numbers_again zs h in rw (again.numbers, again.values, again.narrow) refl

counted_again : (head : Head) (n : ℕ) (zs : List ℤ) → length zs ≡ n → All IsNarrow zs → counted head n (map signed_decimal zs) ≡ formed head zs
counted_again head n zs e h =
    let same : (length (map signed_decimal zs) == n) ≡ true = rw (length-map zs signed_decimal, e) (equal n) in
    rw same (numbered_again head zs h)
  where
    equal : (n : ℕ) → (n == n) ≡ true
    equal n = grind (arith, nat_tests)

header_again : (zs : List ℤ) → length zs ≡ 0 → worded (line_words heads.Header zs) ≡ formed heads.Header zs
header_again [] e = refl
header_again (z ∷ zs) e = absurd (omega arith)

piece_again : (mark : PieceMark) (zs : List ℤ) → length zs ≡ 2 → All IsNarrow zs → worded (line_words (heads.Piece mark) zs) ≡ formed (heads.Piece mark) zs
piece_again mark [] e h = absurd (omega arith)
piece_again mark (y ∷ []) e h = absurd (omega arith)
piece_again mark (y ∷ z ∷ []) e h = rw (mark_again mark) (numbered_again (heads.Piece mark) (y ∷ z ∷ []) h)
piece_again mark (x ∷ y ∷ z ∷ zs) e h = absurd (omega arith)

words_again : (head : Head) (zs : List ℤ) → FitsHead head zs → worded (line_words head zs) ≡ formed head zs
words_again heads.Header zs f = header_again zs (f.counted 0 refl)
words_again heads.Proved zs f = counted_again heads.Proved 0 zs (f.counted 0 refl) f.narrow
words_again heads.Disproved zs f = counted_again heads.Disproved 0 zs (f.counted 0 refl) f.narrow
words_again (heads.Node kind) zs f = rw (kind_again kind) (counted_again (heads.Node kind) 2 zs (f.counted 2 refl) f.narrow)
words_again (heads.Piece mark) zs f = piece_again mark zs (f.counted 2 refl) f.narrow
words_again heads.Row zs f = numbered_again heads.Row zs f.narrow
words_again heads.Rank zs f = numbered_again heads.Rank zs f.narrow
words_again heads.Split zs f = numbered_again heads.Split zs f.narrow
words_again heads.Empty zs f = numbered_again heads.Empty zs f.narrow
words_again heads.Into zs f = counted_again heads.Into 2 zs (f.counted 2 refl) f.narrow
words_again heads.By zs f = numbered_again heads.By zs f.narrow
words_again heads.NoStep zs f = counted_again heads.NoStep 0 zs (f.counted 0 refl) f.narrow
words_again heads.Take zs f = counted_again heads.Take 3 zs (f.counted 3 refl) f.narrow
words_again heads.Draw zs f = numbered_again heads.Draw zs f.narrow
words_again heads.At zs f = numbered_again heads.At zs f.narrow
words_again heads.End zs f = counted_again heads.End 0 zs (f.counted 0 refl) f.narrow

-- the spelling of a line is read as that line
pub line_again : (head : Head) (zs : List ℤ) → FitsHead head zs → line_of (spelling head zs) ≡ formed head zs
line_again head zs f = worded_again (line_words head zs) (are_words head zs f.narrow) ∙ words_again head zs f

-- a text that begins with the spelling of a line and an LF has that line in front of the lines after it
pub text_again : (head : Head) (zs : List ℤ) (rest : List ℕ) → FitsHead head zs → lines_of (spelling head zs ++ 10 ∷ rest) ≡ formed head zs ∷ lines_of rest
text_again head zs rest f =
    let printed = joined_above (line_words head zs) (are_words head zs f.narrow) in
    let kept : without_return (spelling head zs) ≡ spelling head zs = rw (no_return (spelling head zs) (length (spelling head zs) - 1) printed) refl in
    ended_line (spelling head zs ++ 10 ∷ rest) (spelling head zs) rest (piece_front 31 10 (omega arith) (spelling head zs) rest printed)
    ∙ ap (λ (l : PlainLine). l ∷ lines_of rest) (ap line_of kept ∙ line_again head zs f)
