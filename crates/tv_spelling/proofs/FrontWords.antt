-- What the words of names and numbers in a text are.
use Rattle.std.proofs.Common.{◌≡◌, ℕ, suc, ◌+◌, ◌<◌, ◌^◌, Bool, true, false, cond, List, [], ◌∷◌, length, take, drop, Option, None, Some, refl, ap, sym, subst, ◌∙◌, arith}
use Rattle.std.proofs.lemmas.Bool.Decides.{nat_tests}
use Rattle.std.proofs.lemmas.List.{drop-drop}
use Rattle.std.specs.Str.{bytes_eq}
use Rattle.std.specs.Prelude.{codes, slice_index, ◌&&◌, ◌||◌, ◌==◌, nat_le, if◌then◌else◌}
use Rattle.std.specs.List.{prefix_len, list_all}
use Rattle.std.specs.Char.{is_ascii_digit}
use Rattle.tv_language.specs.declared.token.TokenKind.{TokenKind}
use Rattle.tv_language.specs.declared.token.TokenKind.TheVariants.{Name, Number}
use Rattle.tv_language.specs.declared.token.TokenKind.TheVariants as kinds
use Rattle.tv_language.specs.declared.token.Token.{Token}
use Rattle.tv_language.specs.declared.front.Front.{Front}
use Rattle.tv_language.specs.declared.front.Front.TheVariants as fronts
use Rattle.tv_language.specs.Gaps.{gap_of}
use Rattle.tv_language.specs.Numbers.{value_of_digits}
use Rattle.tv_language.specs.WordTexts.{begins_name, continues_name, word_kind, command_kind}
use Rattle.tv_language.specs.Fronts.{front_of, gap_or, solid_front, word_front, number_front, symbol_front, single_front, section, span}
use Rattle.tv_language.specs.Tokens.{IsTokens, end, gap, solid, unread}
use Rattle.tv_language.specs.Symbols.{Lexeme, lexemes, is_colon, variable_by, label_by, variable_words, label_words}
use Rattle.tv_program.specs.Words.{Word}
use Rattle.tv_spelling.specs.ReadAgain.{IsName}
use Rattle.tv_language.proofs.PlaceOfWords.{Each}

-- the digits of a number below 2^62
pub record IsNumberWord (word : Word) : Type 0 where
  pub some : 0 < length word
  pub digits : list_all is_ascii_digit word ≡ true
  pub narrow : value_of_digits word < 2 ^ 62

-- a name or a number
pub data IsLabelWord (word : Word) : Type 0 where
  named : IsName word → IsLabelWord word
  numbered : IsNumberWord word → IsLabelWord word

abbrev pub IsWordOf : TokenKind → Word → Type 0
IsWordOf Name w = IsName w
IsWordOf Number w = IsNumberWord w
IsWordOf kind w = Unit {0}

-- ---- symbols are neither

-- no name and no number
abbrev is_other : Front → Bool
is_other (fronts.Token Name n) = false
is_other (fronts.Token Number n) = false
is_other front = true

chosen : (t : Bool) (x y : Front) → is_other x ≡ true → is_other y ≡ true → is_other (if t then x else y) ≡ true
chosen true x y h k = h
chosen false x y h k = k

single_other : (b : ℕ) → is_other (single_front b) ≡ true
single_other b =
    chosen (b == 58) _ _ refl (chosen (b == 60) _ _ refl (chosen (b == 62) _ _ refl (chosen (b == 33) _ _ refl (chosen (b == 59) _ _ refl (chosen (b == 40) _ _ refl (chosen (b == 41) _ _ refl
    (chosen (b == 91) _ _ refl (chosen (b == 93) _ _ refl (chosen (b == 43) _ _ refl (chosen (b == 45) _ _ refl (chosen (b == 42) _ _ refl refl)))))))))))

symbol_other : (b c : ℕ) → is_other (symbol_front b c) ≡ true
symbol_other b c =
    chosen (b == 58 && c == 61) _ _ refl (chosen (b == 60 && c == 61) _ _ refl (chosen (b == 62 && c == 61) _ _ refl (chosen (b == 61 && c == 61) _ _ refl (chosen (b == 33 && c == 61) _ _ refl
    (chosen (b == 38 && c == 38) _ _ refl (chosen (b == 124 && c == 124) _ _ refl (single_other b)))))))

clash : (front word : Front) → is_other front ≡ true → is_other word ≡ false → front ≡ word → ⊥
clash front word h k is = let e : is_other front ≡ is_other word = ap is_other is in cc

-- ---- words

section_other : (whole bare : TokenKind) (n : ℕ) (o : Option ℕ) → ((m : ℕ) → is_other (fronts.Token whole m) ≡ true) → ((m : ℕ) → is_other (fronts.Token bare m) ≡ true) → is_other (section whole bare n o) ≡ true
section_other whole bare n None h k = k n
section_other whole bare n (Some more) h k = h (n + more)

-- what is no section keeps its kind and length
word_kept : (kind : TokenKind) (m n : ℕ) (rest : List ℕ) → word_front kind m rest ≡ fronts.Token Name n → (kind ≡ Name) × (m ≡ n)
word_kept kinds.Cutpoint m n rest h = absurd (clash _ _ (section_other kinds.Passed kinds.Cutpoint m (span 58 59 rest) (λ k. refl) (λ k. refl)) refl h)
word_kept kinds.Error m n rest h = absurd (clash _ _ (section_other kinds.Passed kinds.Error m (span 58 59 rest) (λ k. refl) (λ k. refl)) refl h)
word_kept kinds.Shadow m n rest h = absurd (clash _ _ (section_other kinds.Passed kinds.Shadow m (span 58 59 rest) (λ k. refl) (λ k. refl)) refl h)
word_kept kinds.At m n rest h = absurd (clash _ _ (section_other kinds.Mark kinds.At m (span 40 41 rest) (λ k. refl) (λ k. refl)) refl h)
word_kept kind m n rest h = (cc, cc)

abbrev is_number : TokenKind → Bool
is_number Number = true
is_number kind = false

kind_chosen : (t : Bool) (x y : TokenKind) → is_number x ≡ false → is_number y ≡ false → is_number (if t then x else y) ≡ false
kind_chosen true x y h k = h
kind_chosen false x y h k = k

command_no_number : (w : List ℕ) → is_number (command_kind w) ≡ false
command_no_number w = kind_chosen (bytes_eq w (codes "PROCESS")) _ _ refl (kind_chosen (bytes_eq w (codes "assume")) _ _ refl (kind_chosen (bytes_eq w (codes "nondet")) _ _ refl (kind_chosen (bytes_eq w (codes "true")) _ _ refl (kind_chosen (bytes_eq w (codes "false")) _ _ refl refl))))

word_no_number : (w : List ℕ) → is_number (word_kind w) ≡ false
word_no_number w =
    kind_chosen (bytes_eq w (codes "START")) _ _ refl (kind_chosen (bytes_eq w (codes "FROM")) _ _ refl (kind_chosen (bytes_eq w (codes "TO")) _ _ refl (kind_chosen (bytes_eq w (codes "AT")) _ _ refl
    (kind_chosen (bytes_eq w (codes "CUTPOINT")) _ _ refl (kind_chosen (bytes_eq w (codes "ERROR")) _ _ refl (kind_chosen (bytes_eq w (codes "SHADOW")) _ _ refl (command_no_number w)))))))

word_is_no_number : (kind : TokenKind) (m n : ℕ) (rest : List ℕ) → is_number kind ≡ false → word_front kind m rest ≡ fronts.Token Number n → ⊥
word_is_no_number kinds.Cutpoint m n rest k h = clash _ _ (section_other kinds.Passed kinds.Cutpoint m (span 58 59 rest) (λ k. refl) (λ k. refl)) refl h
word_is_no_number kinds.Error m n rest k h = clash _ _ (section_other kinds.Passed kinds.Error m (span 58 59 rest) (λ k. refl) (λ k. refl)) refl h
word_is_no_number kinds.Shadow m n rest k h = clash _ _ (section_other kinds.Passed kinds.Shadow m (span 58 59 rest) (λ k. refl) (λ k. refl)) refl h
word_is_no_number kinds.At m n rest k h = clash _ _ (section_other kinds.Mark kinds.At m (span 40 41 rest) (λ k. refl) (λ k. refl)) refl h
word_is_no_number kind m n rest k h = let e : kind ≡ Number = cc in let t : is_number kind ≡ true = ap is_number e in absurd cc

-- ---- a front of bytes that pass a test

passed_by : (p : ℕ → Bool) (x : ℕ) (xs : List ℕ) (t : Bool) → p x ≡ t → list_all p (take (prefix_len p xs) xs) ≡ true → list_all p (take (cond t (1 + prefix_len p xs) 0) (x ∷ xs)) ≡ true
passed_by p x xs true h again =
    let one : 1 + prefix_len p xs ≡ suc (prefix_len p xs) = omega arith in
    ap (λ (k : ℕ). list_all p (take k (x ∷ xs))) one ∙ ap (λ (t : Bool). t && list_all p (take (prefix_len p xs) xs)) h ∙ again
passed_by p x xs false h again = refl

passed : (p : ℕ → Bool) (xs : List ℕ) → list_all p (take (prefix_len p xs) xs) ≡ true
passed p [] = refl
passed p (x ∷ xs) = passed_by p x xs (p x) refl (passed p xs)

-- ---- a name

name_of : (b : ℕ) (bs : List ℕ) → begins_name b ≡ true → word_kind (take (1 + prefix_len continues_name bs) (b ∷ bs)) ≡ Name → IsName (take (1 + prefix_len continues_name bs) (b ∷ bs))
name_of b bs begins free =
    let one : 1 + prefix_len continues_name bs ≡ suc (prefix_len continues_name bs) = omega arith in
    let whole : take (1 + prefix_len continues_name bs) (b ∷ bs) ≡ b ∷ take (prefix_len continues_name bs) bs = ap (λ (k : ℕ). take k (b ∷ bs)) one in
    let goes : continues_name b ≡ true = ap (λ (t : Bool). t || is_ascii_digit b || b == 46 || b == 39 || b == 94 || b == 36) begins in
    subst IsName (sym whole) (record {
      begins = begins;
      continues = ap (λ (t : Bool). t && list_all continues_name (take (prefix_len continues_name bs) bs)) goes ∙ passed continues_name bs;
      free = ap word_kind (sym whole) ∙ free;
    })

number_other : (t : Bool) (k n : ℕ) → (if t then fronts.Token kinds.Wide k else fronts.Token Number k) ≡ fronts.Token Name n → ⊥
number_other true k n h = absurd cc
number_other false k n h = absurd cc

name_solid : (b : ℕ) (bs : List ℕ) (n : ℕ) (t u : Bool) → begins_name b ≡ t
    → (if t then word_front (word_kind (take (1 + prefix_len continues_name bs) (b ∷ bs))) (1 + prefix_len continues_name bs) (drop (prefix_len continues_name bs) bs)
    else (if u then number_front (prefix_len is_ascii_digit (b ∷ bs)) (take (prefix_len is_ascii_digit (b ∷ bs)) (b ∷ bs)) else symbol_front b (slice_index bs 0))) ≡ fronts.Token Name n
    → IsName (take n (b ∷ bs))
name_solid b bs n true u begins h =
    let kept = word_kept _ _ n _ h in
    subst (λ (k : ℕ). IsName (take k (b ∷ bs))) kept.1 (name_of b bs begins kept.0)
name_solid b bs n false true begins h = absurd (number_other _ _ n h)
name_solid b bs n false false begins h = absurd (clash _ _ (symbol_other b (slice_index bs 0)) refl h)

name_by : (b : ℕ) (bs : List ℕ) (n : ℕ) (o : Option ℕ) → gap_or o (solid_front b bs) ≡ fronts.Token Name n → IsName (take n (b ∷ bs))
name_by b bs n (Some m) h = absurd cc
name_by b bs n None h = name_solid b bs n (begins_name b) (is_ascii_digit b) refl h

pub name_in_front : (text : List ℕ) (n : ℕ) → front_of text ≡ fronts.Token Name n → IsName (take n text)
unfolding front_of
name_in_front [] n h = absurd cc
name_in_front (b ∷ bs) n h = name_by b bs n (gap_of (b ∷ bs)) h

-- ---- a number

number_kept : (t : Bool) (k n : ℕ) → (if t then fronts.Token kinds.Wide k else fronts.Token Number k) ≡ fronts.Token Number n → (t ≡ false) × (k ≡ n)
number_kept true k n h = absurd cc
number_kept false k n h = (refl, cc)

some_taken : (b : ℕ) (bs : List ℕ) (t : Bool) (m : ℕ) → t ≡ true → 0 < length (take (cond t (1 + m) 0) (b ∷ bs))
some_taken b bs true m h = let one : 1 + m ≡ suc m = omega arith in subst (λ (k : ℕ). 0 < length (take k (b ∷ bs))) (sym one) (let l : 0 < suc (length (take m bs)) = omega arith in l)
some_taken b bs false m h = absurd cc

below : (v : ℕ) → nat_le (2 ^ 62) v ≡ false → v < 2 ^ 62
below v h = grind (arith, nat_tests)

number_of_digits : (b : ℕ) (bs : List ℕ) (n : ℕ) → is_ascii_digit b ≡ true → number_front (prefix_len is_ascii_digit (b ∷ bs)) (take (prefix_len is_ascii_digit (b ∷ bs)) (b ∷ bs)) ≡ fronts.Token Number n → IsNumberWord (take n (b ∷ bs))
number_of_digits b bs n digit h =
    let ds = take (prefix_len is_ascii_digit (b ∷ bs)) (b ∷ bs) in
    let kept = number_kept (nat_le (2 ^ 62) (value_of_digits ds)) (prefix_len is_ascii_digit (b ∷ bs)) n h in
    subst (λ (k : ℕ). IsNumberWord (take k (b ∷ bs))) kept.1 (record {
      some = some_taken b bs (is_ascii_digit b) (prefix_len is_ascii_digit bs) digit;
      digits = passed is_ascii_digit (b ∷ bs);
      narrow = below (value_of_digits ds) kept.0;
    })

number_solid : (b : ℕ) (bs : List ℕ) (n : ℕ) (t u : Bool) → is_ascii_digit b ≡ u
    → (if t then word_front (word_kind (take (1 + prefix_len continues_name bs) (b ∷ bs))) (1 + prefix_len continues_name bs) (drop (prefix_len continues_name bs) bs)
    else (if u then number_front (prefix_len is_ascii_digit (b ∷ bs)) (take (prefix_len is_ascii_digit (b ∷ bs)) (b ∷ bs)) else symbol_front b (slice_index bs 0))) ≡ fronts.Token Number n
    → IsNumberWord (take n (b ∷ bs))
number_solid b bs n true u digit h =
    let w = take (1 + prefix_len continues_name bs) (b ∷ bs) in
    absurd (word_is_no_number (word_kind w) (1 + prefix_len continues_name bs) n (drop (prefix_len continues_name bs) bs) (word_no_number w) h)
number_solid b bs n false true digit h = number_of_digits b bs n digit h
number_solid b bs n false false digit h = absurd (clash _ _ (symbol_other b (slice_index bs 0)) refl h)

number_by : (b : ℕ) (bs : List ℕ) (n : ℕ) (o : Option ℕ) → gap_or o (solid_front b bs) ≡ fronts.Token Number n → IsNumberWord (take n (b ∷ bs))
number_by b bs n (Some m) h = absurd cc
number_by b bs n None h = number_solid b bs n (begins_name b) (is_ascii_digit b) refl h

pub number_in_front : (text : List ℕ) (n : ℕ) → front_of text ≡ fronts.Token Number n → IsNumberWord (take n text)
unfolding front_of
number_in_front [] n h = absurd cc
number_in_front (b ∷ bs) n h = number_by b bs n (gap_of (b ∷ bs)) h

-- ---- all words of a text

word_in_front : (kind : TokenKind) (text : List ℕ) (n : ℕ) → front_of text ≡ fronts.Token kind n → IsWordOf kind (take n text)
word_in_front Name text n h = name_in_front text n h
word_in_front Number text n h = number_in_front text n h
word_in_front kind text n h = tt

abbrev pub AreRead : List Lexeme → Type 0
AreRead [] = Unit {0}
AreRead (x ∷ xs) = IsWordOf x.kind x.word × AreRead xs

pub words_read : (text : List ℕ) (at : ℕ) (left : List ℕ) (ts : List Token) → drop at text ≡ left → IsTokens at left ts → AreRead (lexemes text ts)
words_read text at left ts is (end h) = (tt, tt)
words_read text at left ts is (gap n h p) = words_read text (at + n) (drop n left) ts (sym (drop-drop n at text) ∙ ap (drop n) is) p
words_read text at left ts is (solid kind n h p) =
    (subst (λ (x : List ℕ). IsWordOf kind (take n x)) (sym is) (word_in_front kind left n h), words_read text (at + n) (drop n left) _ (sym (drop-drop n at text) ∙ ap (drop n) is) p)
words_read text at left ts is (unread h) = (tt, tt)

name_here : (behind_colon : Bool) (kind : TokenKind) (w : Word) (ws : List Word) → IsWordOf kind w → Each IsName ws → Each IsName (variable_by behind_colon kind w ws)
name_here true kind w ws h k = k
name_here false Name w ws h k = (h, k)
name_here false kind w ws h k = k

pub names_read : (behind_colon : Bool) (xs : List Lexeme) → AreRead xs → Each IsName (variable_words behind_colon xs)
names_read b [] h = tt
names_read b (x ∷ xs) h = name_here b x.kind x.word (variable_words (is_colon x.kind) xs) h.0 (names_read (is_colon x.kind) xs h.1)

label_here : (behind_colon : Bool) (kind : TokenKind) (w : Word) (ws : List Word) → IsWordOf kind w → Each IsLabelWord ws → Each IsLabelWord (label_by behind_colon kind w ws)
label_here false kind w ws h k = k
label_here true Name w ws h k = (named h, k)
label_here true Number w ws h k = (numbered h, k)
label_here true kind w ws h k = k

pub labels_read : (behind_colon : Bool) (xs : List Lexeme) → AreRead xs → Each IsLabelWord (label_words behind_colon xs)
labels_read b [] h = tt
labels_read b (x ∷ xs) h = label_here b x.kind x.word (label_words (is_colon x.kind) xs) h.0 (labels_read (is_colon x.kind) xs h.1)
