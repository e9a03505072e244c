-- The marks of tokens that are known numbers and names, and no draws, are their symbols.
use Rattle.std.proofs.Common.{◌≡◌, ℕ, ◌^◌, Bool, true, false, cond, not, List, [], ◌∷◌, ◌++◌, map, Option, Some, None, refl, sym, ap, ◌∙◌, arith}
use Rattle.std.specs.Prelude.{◌&&◌, ◌||◌, nat_lt, slice_index_or, length}
use Rattle.tv_language.specs.declared.token.TokenKind.{TokenKind}
use Rattle.tv_language.specs.declared.token.TokenKind.TheVariants as kinds
use Rattle.tv_language.specs.declared.token.Token.{Token}
use Rattle.tv_language.specs.Numbers.{value_of_digits}
use Rattle.tv_program.specs.Words.{Word, number_of, words_with, with_new}
use Rattle.tv_language.specs.Symbols as symbols
use Rattle.tv_language.specs.Symbols.{Symbol, number, name, label, drawn, fixed, lexeme, lexemes, Vocabulary, numbered, symbol_by, is_colon, symbols_from}
use Rattle.tv_language.proofs.PlaceOfWords.{found}
use Rattle.tv_reading.specs.Marks.{Mark, plain, symbol_of, symbols_of, is_formula_word, new_name, known_name, number_mark, mark_by, names_behind, draws_behind, marks_from}
use Rattle.tv_reading.proofs.SymbolLemmas.{body_kind, all_body, all_sound, draws_at_all}
use Rattle.tv_spelling.proofs.Mentioned.{variables_in}
use Rattle.std.proofs.lemmas.Bool.{and_from, not-true, and_parts}

-- ---- symbols that are marks

-- where no name is added, the words `at` and `term` are none
abbrev pub is_free : Bool → List Word → ℕ → Bool
is_free grows words v = grows || not (is_formula_word (slice_index_or words v []))

abbrev pub AreFree : Bool → List Word → List ℕ → Type 0
AreFree grows words [] = Unit {0}
AreFree grows words (v ∷ vs) = (is_free grows words v ≡ true) × AreFree grows words vs

abbrev pub settled : Bool → List Word → Symbol → Bool
settled grows words (number k) = nat_lt k (2 ^ 62)
settled grows words (name v) = is_free grows words v
settled grows words (label l) = false
settled grows words (drawn d) = false
settled grows words (fixed kinds.Unread) = false
settled grows words (fixed kind) = not (is_colon kind)

abbrev pub all_settled : Bool → List Word → List Symbol → Bool
all_settled grows words [] = true
all_settled grows words (s ∷ ss) = settled grows words s && all_settled grows words ss

settled_kind : (grows : Bool) (words : List Word) (kind : TokenKind) → body_kind kind ≡ true → settled grows words (fixed kind) ≡ true
settled_kind grows words kinds.Colon h = absurd cc
settled_kind grows words kinds.Unread h = absurd cc
settled_kind grows words kind h = refl

-- symbols of a sum or a condition without draws, and the end of the text
pub settled_before_end : (grows : Bool) (words : List Word) (d : ℕ) (ss : List Symbol) → all_body ss ≡ true → draws_at_all ss ≡ 0 → all_sound d ss ≡ true → AreFree grows words (variables_in (ss ++ fixed kinds.End ∷ [])) → all_settled grows words (ss ++ fixed kinds.End ∷ []) ≡ true
settled_before_end grows words d [] b n w f = refl
settled_before_end grows words d (number k ∷ ss) b n w f = and_from _ _ ((and_parts _ _ w).0) (settled_before_end grows words d ss b (omega (arith, n)) ((and_parts _ _ w).1) f)
settled_before_end grows words d (name v ∷ ss) b n w f = and_from _ _ f.0 (settled_before_end grows words d ss b (omega (arith, n)) w f.1)
settled_before_end grows words d (label l ∷ ss) b n w f = cc
settled_before_end grows words d (drawn k ∷ ss) b n w f = absurd (omega (arith, n))
settled_before_end grows words d (fixed kind ∷ ss) b n w f = and_from (settled grows words (fixed kind)) (all_settled grows words (ss ++ fixed kinds.End ∷ [])) (settled_kind grows words kind ((and_parts (body_kind kind) (all_body ss) b).0)) (settled_before_end grows words d ss ((and_parts (body_kind kind) (all_body ss) b).1) (omega (arith, n)) w f)

-- ---- the mark of one token

record IsMark (grows : Bool) (words : List Word) (draws : ℕ) (kind : TokenKind) (w : Word) (s : Symbol) : Type 0 where
  mark : mark_by grows words draws kind w ≡ plain s
  names : names_behind grows kind w words ≡ words
  no_colon : is_colon kind ≡ false

same_names : (w : Word) (words : List Word) (k : ℕ) → number_of w words ≡ Some k → words_with w words ≡ words
same_names w words k e = ap (λ (o : Option ℕ). with_new o w words) e

either_same : (b : Bool) (xs ys : List Word) → xs ≡ ys → cond b xs ys ≡ ys
either_same true xs ys e = e
either_same false xs ys e = refl

name_is : (grows : Bool) (words : List Word) (draws : ℕ) (w : Word) (o : Option ℕ) → number_of w words ≡ o → settled grows words (numbered name o) ≡ true → IsMark grows words draws kinds.Name w (numbered name o)
name_is grows words draws w None e h = absurd cc
name_is true words draws w (Some k) e h = record {
  mark = ap (λ (o : Option ℕ). new_name o (length words)) e;
  names = either_same (nat_lt (length words) 512) (words_with w words) words (same_names w words k e);
  no_colon = refl;
}
name_is false words draws w (Some k) e h = record {
  mark = ap (known_name (is_formula_word w)) e ∙ ap (λ (b : Bool). known_name b (Some k)) (ap is_formula_word (sym (found w words k e)) ∙ not-true (is_formula_word (slice_index_or words k [])) h);
  names = refl;
  no_colon = refl;
}

number_is : (n : ℕ) → nat_lt n (2 ^ 62) ≡ true → number_mark n ≡ plain (number n)
number_is n h = ap (λ (b : Bool). cond b (plain (number n)) (plain (fixed kinds.Wide))) h

token_is : (grows : Bool) (v : Vocabulary) (d draws : ℕ) (kind : TokenKind) (w : Word) → settled grows v.variables (symbol_by v false d kind w) ≡ true → IsMark grows v.variables draws kind w (symbol_by v false d kind w)
token_is grows v d draws kinds.Name w h = name_is grows v.variables draws w (number_of w v.variables) refl h
token_is true v d draws kinds.Number w h = record { mark = number_is (value_of_digits w) h; names = refl; no_colon = refl }
token_is false v d draws kinds.Number w h = record { mark = number_is (value_of_digits w) h; names = refl; no_colon = refl }
token_is grows v d draws kinds.Nondet w h = absurd cc
token_is grows v d draws kinds.Colon w h = absurd cc
token_is true v d draws kind w h = record { mark = refl; names = refl; no_colon = refl }
token_is false v d draws kind w h = record { mark = refl; names = refl; no_colon = refl }

-- ---- the marks of all tokens

pub marks_are : (grows : Bool) (v : Vocabulary) (text : List ℕ) (d draws : ℕ) (ts : List Token) → all_settled grows v.variables (symbols_from v false d (lexemes text ts)) ≡ true → marks_from text grows v.variables draws ts ≡ map plain (symbols_from v false d (lexemes text ts))
unfolding marks_from
marks_are grows v text d draws [] h = refl
marks_are grows v text d draws (t ∷ ts) h =
    let w : Word = (lexeme text t).word in
    let s : Symbol = symbol_by v false d t.kind w in
    let one = token_is grows v d draws t.kind w ((and_parts _ _ h).0) in
    let behind : symbols_from v (is_colon t.kind) (symbols.draws_behind t.kind d) (lexemes text ts) ≡ symbols_from v false (symbols.draws_behind t.kind d) (lexemes text ts) = ap (λ (b : Bool). symbols_from v b (symbols.draws_behind t.kind d) (lexemes text ts)) one.no_colon in
    let again = marks_are grows v text (symbols.draws_behind t.kind d) (draws_behind t.kind draws) ts (ap (all_settled grows v.variables) (sym behind) ∙ (and_parts _ _ h).1) in
    ap (λ (m : Mark). m ∷ marks_from text grows (names_behind grows t.kind w v.variables) (draws_behind t.kind draws) ts) one.mark
    ∙ ap (λ (ns : List Word). plain s ∷ marks_from text grows ns (draws_behind t.kind draws) ts) one.names
    ∙ ap (λ (ms : List Mark). plain s ∷ ms) (again ∙ ap (λ (us : List Symbol). map plain us) (sym behind))

-- ---- what is read where no name is added

abbrev quiet : List Word → Symbol → Bool
quiet words (name v) = is_free false words v
quiet words (drawn d) = false
quiet words s = true

abbrev pub all_quiet : List Word → List Symbol → Bool
all_quiet words [] = true
all_quiet words (s ∷ ss) = quiet words s && all_quiet words ss

known_quiet : (words : List Word) (w : Word) (b : Bool) (o : Option ℕ) → is_formula_word w ≡ b → number_of w words ≡ o → quiet words (symbol_of (known_name b o)) ≡ true
known_quiet words w true o e f = refl
known_quiet words w false None e f = refl
known_quiet words w false (Some k) e f = ap not (ap is_formula_word (found w words k f) ∙ e)

number_quiet : (words : List Word) (n : ℕ) → quiet words (symbol_of (number_mark n)) ≡ true
number_quiet words n = by (nat_lt n (2 ^ 62))
  where
    by : (b : Bool) → quiet words (symbol_of (cond b (plain (number n)) (plain (fixed kinds.Wide)))) ≡ true
    by true = refl
    by false = refl

mark_quiet : (words : List Word) (draws : ℕ) (kind : TokenKind) (w : Word) → quiet words (symbol_of (mark_by false words draws kind w)) ≡ true
mark_quiet words draws kinds.Name w = known_quiet words w (is_formula_word w) (number_of w words) refl refl
mark_quiet words draws kinds.Number w = number_quiet words (value_of_digits w)
mark_quiet words draws kinds.Nondet w = refl
mark_quiet words draws kind w = refl

names_stay : (kind : TokenKind) (w : Word) (words : List Word) → names_behind false kind w words ≡ words
names_stay kinds.Name w words = refl
names_stay kind w words = refl

pub marks_quiet : (text : List ℕ) (words : List Word) (draws : ℕ) (ts : List Token) → all_quiet words (symbols_of (marks_from text false words draws ts)) ≡ true
unfolding marks_from
marks_quiet text words draws [] = refl
marks_quiet text words draws (t ∷ ts) =
    let w : Word = (lexeme text t).word in
    and_from _ _ (mark_quiet words draws t.kind w)
    (ap (λ (ns : List Word). all_quiet words (symbols_of (marks_from text false ns (draws_behind t.kind draws) ts))) (names_stay t.kind w words) ∙ marks_quiet text words (draws_behind t.kind draws) ts)

pub quiet_front : (words : List Word) (a b : List Symbol) → all_quiet words (a ++ b) ≡ true → all_quiet words a ≡ true
quiet_front words [] b h = refl
quiet_front words (s ∷ a) b h = and_from _ _ ((and_parts _ _ h).0) (quiet_front words a b ((and_parts _ _ h).1))

pub quiet_free : (words : List Word) (ss : List Symbol) → all_quiet words ss ≡ true → AreFree false words (variables_in ss)
quiet_free words [] h = tt
quiet_free words (name v ∷ ss) h = ((and_parts _ _ h).0, quiet_free words ss ((and_parts _ _ h).1))
quiet_free words (number k ∷ ss) h = quiet_free words ss h
quiet_free words (label l ∷ ss) h = quiet_free words ss h
quiet_free words (drawn d ∷ ss) h = absurd cc
quiet_free words (fixed kind ∷ ss) h = quiet_free words ss h

pub quiet_undrawn : (words : List Word) (ss : List Symbol) → all_quiet words ss ≡ true → draws_at_all ss ≡ 0
quiet_undrawn words [] h = refl
quiet_undrawn words (drawn d ∷ ss) h = absurd cc
quiet_undrawn words (number k ∷ ss) h = omega (arith, quiet_undrawn words ss h)
quiet_undrawn words (name v ∷ ss) h = omega (arith, quiet_undrawn words ss ((and_parts _ _ h).1))
quiet_undrawn words (label l ∷ ss) h = omega (arith, quiet_undrawn words ss h)
quiet_undrawn words (fixed kind ∷ ss) h = omega (arith, quiet_undrawn words ss h)

pub all_free : (words : List Word) (vs : List ℕ) → AreFree true words vs
all_free words [] = tt
all_free words (v ∷ vs) = (refl, all_free words vs)
