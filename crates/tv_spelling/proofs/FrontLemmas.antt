-- Words at the front of a text.
use Rattle.std.proofs.Common.{◌≡◌, ℕ, suc, ◌+◌, ◌-◌, ◌*◌, ◌<◌, ◌^◌, Bool, true, false, cond, List, [], ◌∷◌, ◌++◌, length, take, drop, None, refl, ap, ◌∙◌, arith, rules}
use Rattle.std.specs.Prelude.{slice_index, ◌==◌, nat_le, fold}
use Rattle.std.specs.List.{prefix_len, list_all}
use Rattle.std.specs.Char.{is_ascii_digit}
use Rattle.std.specs.Fmt.{decimal}
use Rattle.std.proofs.lemmas.Bool.Decides.{nat_tests}
use Rattle.std.proofs.lemmas.Str.Parse.{IsNumeralModel, numerals_by_fold}
use Rattle.std.proofs.lemmas.Fmt.{digits_decimal, digits_value-decimal}
use Rattle.tv_language.specs.declared.token.TokenKind.{TokenKind}
use Rattle.tv_language.specs.declared.token.TokenKind.TheVariants.{Name, Number}
use Rattle.tv_language.specs.declared.front.Front.TheVariants as fronts
use Rattle.tv_language.specs.Gaps.{gap_of, is_blank}
use Rattle.tv_language.specs.Numbers.{value_of_digits}
use Rattle.tv_language.specs.WordTexts.{begins_name, continues_name, word_kind}
use Rattle.tv_language.specs.Fronts.{front_of, solid_front, word_front, number_front}
use Rattle.tv_spelling.specs.ReadAgain.{IsName}
use Rattle.tv_spelling.proofs.Pieces.{taken}
use Rattle.std.proofs.lemmas.Bool.{and_parts}

-- ---- the bytes that pass a test, up to the first that does not

passed_by : (p : ℕ → Bool) (x : List ℕ) → p (slice_index x 0) ≡ false → prefix_len p x ≡ 0
passed_by p [] h = refl
passed_by p (b ∷ x) h = ap (λ (t : Bool). cond t (1 + prefix_len p x) 0) h

pub passed : (p : ℕ → Bool) (w x : List ℕ) → list_all p w ≡ true → p (slice_index x 0) ≡ false → prefix_len p (w ++ x) ≡ length w
passed p [] x h s = passed_by p x s
passed p (b ∷ w) x h s =
    let t = and_parts (p b) (list_all p w) h in
    ap (λ (u : Bool). cond u (1 + prefix_len p (w ++ x)) 0) t.0 ∙ (let again = passed p w x t.1 s in omega arith)

-- ---- no blank and no comment

name_is_no_gap : (b : ℕ) → begins_name b ≡ true → (is_blank b ≡ false) × ((b == 47) ≡ false)
name_is_no_gap b h = (grind (arith, nat_tests), grind (arith, nat_tests))

digit_is_no_gap : (b : ℕ) → is_ascii_digit b ≡ true → (is_blank b ≡ false) × ((b == 47) ≡ false)
digit_is_no_gap b h = (grind (arith, nat_tests), grind (arith, nat_tests))

pub digit_begins_no_name : (b : ℕ) → is_ascii_digit b ≡ true → begins_name b ≡ false
digit_begins_no_name b h = grind (arith, nat_tests)

pub digit_continues : (b : ℕ) → continues_name b ≡ false → is_ascii_digit b ≡ false
digit_continues b h = grind (arith, nat_tests)

no_gap : (b : ℕ) (bs : List ℕ) → is_blank b ≡ false → (b == 47) ≡ false → gap_of (b ∷ bs) ≡ None
no_gap b bs h k = rw (h, k) refl

-- ---- a name

solid_word : (kind : TokenKind) → ((n : ℕ) (rest : List ℕ) → word_front kind n rest ≡ fronts.Token kind n) → (b : ℕ) (w x : List ℕ) → begins_name b ≡ true → list_all continues_name w ≡ true
    → word_kind (b ∷ w) ≡ kind → continues_name (slice_index x 0) ≡ false → solid_front b (w ++ x) ≡ fronts.Token kind (1 + length w)
solid_word kind bare b w x begins goes is stops =
    let one : 1 + length w ≡ suc (length w) = omega arith in
    let whole : take (1 + length w) (b ∷ (w ++ x)) ≡ b ∷ w = ap (λ (k : ℕ). take k (b ∷ (w ++ x))) one ∙ ap (λ (r : List ℕ). b ∷ r) (taken w x) in
    rw (begins, passed continues_name w x goes stops)
    (ap (λ (k : TokenKind). word_front k (1 + length w) (drop (length w) (w ++ x))) (ap word_kind whole ∙ is) ∙ bare (1 + length w) (drop (length w) (w ++ x)))

-- a word of a kind with which nothing after it belongs
pub word_at_front : (kind : TokenKind) → ((n : ℕ) (rest : List ℕ) → word_front kind n rest ≡ fronts.Token kind n) → (b : ℕ) (w x : List ℕ) → begins_name b ≡ true → list_all continues_name w ≡ true
    → word_kind (b ∷ w) ≡ kind → continues_name (slice_index x 0) ≡ false → front_of (b ∷ (w ++ x)) ≡ fronts.Token kind (suc (length w))
unfolding front_of
word_at_front kind bare b w x begins goes is stops =
    let gap = name_is_no_gap b begins in
    rw (no_gap b (w ++ x) gap.0 gap.1) (solid_word kind bare b w x begins goes is stops ∙ ap (fronts.Token kind) (let one : 1 + length w ≡ suc (length w) = omega arith in one))

pub name_front : (w x : List ℕ) → IsName w → continues_name (slice_index x 0) ≡ false → front_of (w ++ x) ≡ fronts.Token Name (length w)
name_front [] x h stops = absurd (let k = h.begins in cc)
name_front (b ∷ w) x h stops = word_at_front Name (λ n rest. refl) b w x h.begins (and_parts (continues_name b) (list_all continues_name w) h.continues).1 h.free stops

-- ---- a number

own : IsNumeralModel (λ ds. list_all is_ascii_digit ds ≡ true) (λ ds. fold (λ v d. 10 * v + (d - 48)) 0 ds)
own = numerals_by_fold _ (search rules) (λ n ds. fold (λ v d. 10 * v + (d - 48)) n ds) (search rules)

pub decimal_digits : (n : ℕ) → n < 2 ^ 62 → list_all is_ascii_digit (decimal n) ≡ true
decimal_digits n h = digits_decimal own n (omega arith)

pub decimal_value : (n : ℕ) → n < 2 ^ 62 → value_of_digits (decimal n) ≡ n
decimal_value n h = digits_value-decimal own n (omega arith)

narrow_front : (len : ℕ) (ds : List ℕ) → value_of_digits ds < 2 ^ 62 → number_front len ds ≡ fronts.Token Number len
narrow_front len ds h = let t : nat_le (2 ^ 62) (value_of_digits ds) ≡ false = grind (arith, nat_tests) in rw t refl

digits_front : (d : ℕ) (ds x : List ℕ) → list_all is_ascii_digit (d ∷ ds) ≡ true → value_of_digits (d ∷ ds) < 2 ^ 62 → continues_name (slice_index x 0) ≡ false
    → solid_front d (ds ++ x) ≡ fronts.Token Number (length (d ∷ ds))
digits_front d ds x digits narrow stops =
    let first = and_parts (is_ascii_digit d) (list_all is_ascii_digit ds) digits in
    let one : 1 + length ds ≡ suc (length ds) = omega arith in
    rw (digit_begins_no_name d first.0, first.0, passed is_ascii_digit ds x first.1 (digit_continues (slice_index x 0) stops), one, taken ds x)
    (narrow_front (suc (length ds)) (d ∷ ds) narrow)

pub number_front_is : (ds x : List ℕ) → 0 < length ds → list_all is_ascii_digit ds ≡ true → value_of_digits ds < 2 ^ 62 → continues_name (slice_index x 0) ≡ false
    → front_of (ds ++ x) ≡ fronts.Token Number (length ds)
unfolding front_of
number_front_is [] x some digits narrow stops = absurd (omega arith)
number_front_is (d ∷ ds) x some digits narrow stops =
    let first = and_parts (is_ascii_digit d) (list_all is_ascii_digit ds) digits in
    let gap = digit_is_no_gap d first.0 in
    rw (no_gap d (ds ++ x) gap.0 gap.1) (digits_front d ds x digits narrow stops)
