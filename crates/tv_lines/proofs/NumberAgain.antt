-- A number that is written is read again.
use Rattle.std.proofs.Common.{◌≡◌, ℕ, zero, suc, ◌+◌, ◌-◌, ◌*◌, ◌^◌, ◌<◌, ℤ, pos, negsuc, Bool, true, false, List, [], ◌∷◌, length, map, get_or, refl, ap, ◌∙◌, arith, rules}
use Rattle.std.specs.Prelude.{nat_lt, not, ◌&&◌, ◌||◌, fold, slice_index, All, codes, ◌==◌}
use Rattle.std.specs.Char.{is_ascii_digit}
use Rattle.std.specs.List.{list_all}
use Rattle.std.specs.Str.{bytes_eq}
use Rattle.std.specs.Fmt.{decimal, signed_decimal}
use Rattle.std.proofs.lemmas.Bool.Decides.{nat_tests}
use Rattle.std.proofs.lemmas.List.Elements.{All-head, All-tail}
use Rattle.std.proofs.lemmas.Slice.Eq.{bytes_eq-Decides}
use Rattle.std.proofs.lemmas.Str.Parse.{IsNumeralModel, numerals_by_fold}
use Rattle.std.proofs.lemmas.Fmt.{digits_decimal, digits_value-decimal, decimal_nonempty, first_decimal, decimal_digit}
use Rattle.tv_lines.specs.Numbers.{is_numeral, value, is_number, number_of, is_narrow, IsNarrow}

own : IsNumeralModel (λ ds. list_all is_ascii_digit ds ≡ true) (λ ds. fold (λ v d. 10 * v + (d - 48)) 0 ds)
own = numerals_by_fold _ (search rules) (λ n ds. fold (λ v d. 10 * v + (d - 48)) n ds) (search rules)

three : (a b c : Bool) → a ≡ true → b ≡ true → c ≡ true → (a && b && c) ≡ true
three true true true x y z = refl
three true true false x y z = absurd cc
three true false c x y z = absurd cc
three false b c x y z = absurd cc

-- ---- a number

numeral : (n : ℕ) → n < 2 ^ 62 → is_numeral (decimal n) ≡ true
numeral zero h = rw (decimal_digit 0 (omega arith)) refl
numeral (suc n) h =
    let some : 0 < length (decimal (suc n)) = decimal_nonempty (suc n) (omega arith) in
    let big : 48 < get_or (decimal (suc n)) 0 0 = first_decimal (suc n) (omega arith) (omega arith) in
    three (nat_lt 0 (length (decimal (suc n)))) (list_all is_ascii_digit (decimal (suc n))) (length (decimal (suc n)) == 1 || not (slice_index (decimal (suc n)) 0 == 48))
    (grind (arith, nat_tests)) (digits_decimal own (suc n) (omega arith)) (grind (arith, nat_tests))

value_is : (n : ℕ) → n < 2 ^ 62 → value (decimal n) ≡ n
value_is n h = digits_value-decimal own n (omega arith)

not_zero : (n : ℕ) → n < 2 ^ 62 → 0 < n → bytes_eq (decimal n) (codes "0") ≡ false
not_zero n h p = by (bytes_eq (decimal n) (codes "0")) refl
  where
    by : (b : Bool) → bytes_eq (decimal n) (codes "0") ≡ b → b ≡ false
    by false e = refl
    by true e = let is : decimal n ≡ codes "0" = (bytes_eq-Decides (decimal n) (codes "0")).0 e in let big : 48 < get_or (decimal n) 0 0 = first_decimal n p (omega arith) in let at : get_or (decimal n) 0 0 ≡ 48 = ap (λ (ds : List ℕ). get_or ds 0 0) is in absurd (omega arith)

head_digit : (a b c d : Bool) → (a && (b && c) && d) ≡ true → b ≡ true
head_digit true true c d h = refl
head_digit true false c d h = absurd cc
head_digit false b c d h = absurd cc

no_digit : (d : ℕ) → is_ascii_digit d ≡ true → (d == 45) ≡ false
no_digit d h = grind (arith, nat_tests)

-- digits begin with no minus
no_minus : (ds : List ℕ) → is_numeral ds ≡ true → (is_number ds ≡ true) × (number_of ds ≡ pos (value ds))
no_minus [] h = absurd cc
no_minus (d ∷ ds) h =
    let first : is_ascii_digit d ≡ true = head_digit (nat_lt 0 (length (d ∷ ds))) (is_ascii_digit d) (list_all is_ascii_digit ds) (length (d ∷ ds) == 1 || not (slice_index (d ∷ ds) 0 == 48)) h in
    (rw (no_digit d first) h, rw (no_digit d first) refl)

-- the number of a word that spells it
pub number_again : (z : ℤ) → IsNarrow z → (is_number (signed_decimal z) ≡ true) × (number_of (signed_decimal z) ≡ z)
number_again (pos n) h = let m = no_minus (decimal n) (numeral n h) in (m.0, m.1 ∙ ap pos (value_is n h))
number_again (negsuc n) h = (rw (numeral (suc n) h, not_zero (suc n) h (omega arith)) refl, rw (value_is (suc n) h) refl)

narrow_again : (z : ℤ) → IsNarrow z → is_narrow z ≡ true
narrow_again z h = grind (arith, nat_tests)

-- the numbers of words that spell them
pub record NumbersAgain (zs : List ℤ) : Type 0 where
  pub numbers : list_all is_number (map signed_decimal zs) ≡ true
  pub values : map number_of (map signed_decimal zs) ≡ zs
  pub narrow : list_all is_narrow zs ≡ true

pub numbers_again : (zs : List ℤ) → All IsNarrow zs → NumbersAgain zs
numbers_again [] h = record { numbers = refl; values = refl; narrow = refl }
numbers_again (z ∷ zs) h =
    let first = number_again z (All-head IsNarrow z zs h) in
    let rest = numbers_again zs (All-tail IsNarrow z zs h) in
    record {
      numbers = rw (first.0, rest.numbers) refl;
      values = rw (first.1, rest.values) refl;
      narrow = rw (narrow_again z (All-head IsNarrow z zs h), rest.narrow) refl;
    }

-- each byte lies above this one
abbrev pub Above : ℕ → List ℕ → Type 0
Above k bytes = list_all (nat_lt k) bytes ≡ true

digit_above : (d : ℕ) → is_ascii_digit d ≡ true → nat_lt 32 d ≡ true
digit_above d h = grind (arith, nat_tests)

digits_above : (ds : List ℕ) → list_all is_ascii_digit ds ≡ true → Above 32 ds
digits_above [] h = refl
digits_above (d ∷ ds) h = by (is_ascii_digit d) refl h (digits_above ds)
  where
    by : (a : Bool) → is_ascii_digit d ≡ a → (a && list_all is_ascii_digit ds) ≡ true → (list_all is_ascii_digit ds ≡ true → Above 32 ds) → (nat_lt 32 d && list_all (nat_lt 32) ds) ≡ true
    by true e h rest = rw (digit_above d e, rest h) refl
    by false e h rest = absurd cc

pub signed_above : (z : ℤ) → IsNarrow z → Above 32 (signed_decimal z)
signed_above (pos n) h = digits_above (decimal n) (digits_decimal own n (omega arith))
signed_above (negsuc n) h = digits_above (decimal (suc n)) (digits_decimal own (suc n) (omega arith))
