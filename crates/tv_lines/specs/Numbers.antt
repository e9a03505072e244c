-- Words that are numbers.
use Rattle.std.specs.Prelude.{◌≡◌, ℕ, ◌+◌, ◌-◌, ◌*◌, ◌^◌, ◌<◌, ℤ, pos, neg_ℤ, unsigned_abs, Bool, true, false, not, ◌&&◌, ◌||◌, List, [], ◌∷◌, length, fold, slice_index, nat_lt, ◌==◌, if◌then◌else◌, codes}
use Rattle.std.specs.Char.{is_ascii_digit}
use Rattle.std.specs.List.{list_all}
use Rattle.std.specs.Str.{bytes_eq}
use Rattle.tv_lines.specs.declared.number.NumberWord.{NumberWord}
use Rattle.tv_lines.specs.declared.number.NumberWord.TheVariants as words

-- one digit, or several where the first isn't 0
abbrev pub is_numeral : List ℕ → Bool
is_numeral ds = nat_lt 0 (length ds) && list_all is_ascii_digit ds && (length ds == 1 || not (slice_index ds 0 == 48))

-- the number that the digits write
abbrev pub value : List ℕ → ℕ
value ds = fold (λ v d. 10 * v + (d - 48)) 0 ds

-- a number without leading zeros, with - in front of a negative one only
abbrev pub is_number : List ℕ → Bool
is_number [] = false
is_number (b ∷ bs) = if b == 45 then is_numeral bs && not (bytes_eq bs (codes "0")) else is_numeral (b ∷ bs)

-- the number that such a word writes
abbrev pub number_of : List ℕ → ℤ
number_of [] = pos 0
number_of (b ∷ bs) = if b == 45 then neg_ℤ (pos (value bs)) else pos (value (b ∷ bs))

-- below 2^62 in magnitude
abbrev pub IsNarrow : ℤ → Type 0
IsNarrow z = unsigned_abs z < 2 ^ 62

abbrev pub is_narrow : ℤ → Bool
is_narrow z = nat_lt (unsigned_abs z) (2 ^ 62)

-- what a word is as a number
abbrev pub Reads : List ℕ → NumberWord → Type 0
Reads word (words.Narrow z) = (is_number word ≡ true) × (is_narrow (number_of word) ≡ true) × (z ≡ number_of word)
Reads word words.Wide = (is_number word ≡ true) × (is_narrow (number_of word) ≡ false)
Reads word words.Missing = is_number word ≡ false
