-- The symbols of the tokens that a sum or a condition has, under each vocabulary that the names after it begin.
use Rattle.std.proofs.Common.{◌≡◌, ℕ, suc, ◌+◌, ◌^◌, ◌<◌, Bool, true, false, List, [], ◌∷◌, ◌++◌, drop, length, Option, Some, None, cond, refl, sym, ap, subst, ◌∙◌, append_assoc, length-append, arith}
use Rattle.std.proofs.lemmas.List.{drop-drop}
use Rattle.std.proofs.lemmas.Bool.Decides.{nat_tests}
use Rattle.std.specs.Prelude.{◌&&◌, nat_lt}
use Rattle.std.specs.List.{position, position_or_len}
use Rattle.std.specs.Str.{bytes_eq}
use Rattle.tv_language.specs.declared.token.TokenKind.{TokenKind}
use Rattle.tv_language.specs.declared.token.TokenKind.TheVariants as kinds
use Rattle.tv_language.specs.declared.token.Token.{Token}
use Rattle.tv_language.specs.Numbers.{value_of_digits}
use Rattle.tv_program.specs.declared.tree.Relation.{Relation}
use Rattle.tv_program.specs.Trees.{Expression, Condition}
use Rattle.tv_program.specs.Words.{Word, number_of, with_new}
use Rattle.tv_language.specs.Symbols as symbols
use Rattle.tv_language.specs.Symbols.{Symbol, number, name, label, drawn, fixed, Lexeme, lexeme, lexemes, Vocabulary, numbered, symbol_by, is_colon, symbols_from}
use Rattle.tv_language.specs.Sums.{IsFactor, constant, variable, draw, bracketed, negative, AreFactors, no_factor, times, IsProduct, factors, AreProducts, no_product, plus, less, IsSum, products}
use Rattle.tv_language.specs.Conditions as conditions
use Rattle.tv_language.specs.Conditions.{relation_of, IsPlain, always, never, denied, IsLiteral, comparison, AreLiterals, no_literal, and, IsConjunction, literals, AreConjunctions, no_conjunction, or, IsCondition, conjunctions}
use Rattle.tv_reading.specs.Marks.{Mark, plain, refused, symbol_of, symbols_of, TooMany, new_name, number_mark, draw_mark, mark_by, names_behind, draws_behind, Stand, past, first}
use Rattle.tv_reading.proofs.PassedLemmas.{symbols-append}
use Rattle.tv_language.proofs.PlaceLemmas.{bytes-same}
use Rattle.tv_reading.proofs.MarkLemmas.{starts}
use Rattle.std.proofs.lemmas.Bool.{and_from, ltb-true}

-- ---- symbols that sums and conditions have

abbrev pub ordinary_kind : TokenKind → Bool
ordinary_kind kinds.Colon = false
ordinary_kind kinds.From = false
ordinary_kind kinds.Name = false
ordinary_kind kinds.Number = false
ordinary_kind kinds.Nondet = false
ordinary_kind kinds.Wide = false
ordinary_kind kinds.Unread = false
ordinary_kind kind = true

abbrev pub ordinary : Symbol → Bool
ordinary (label l) = false
ordinary (fixed kind) = ordinary_kind kind
ordinary s = true

abbrev pub all_ordinary : List Symbol → Bool
all_ordinary [] = true
all_ordinary (s ∷ ss) = ordinary s && all_ordinary ss

mutual
  factor_ordinary : {n : ℕ} {e : Expression} {ts rest : List Symbol} → IsFactor n e ts rest → all_ordinary rest ≡ true → all_ordinary ts ≡ true
  factor_ordinary constant h = h
  factor_ordinary variable h = h
  factor_ordinary draw h = h
  factor_ordinary (bracketed s) h = sum_ordinary s h
  factor_ordinary (negative f) h = factor_ordinary f h

  factors_ordinary : {n : ℕ} {es : List Expression} {ts rest : List Symbol} → AreFactors n es ts rest → all_ordinary rest ≡ true → all_ordinary ts ≡ true
  factors_ordinary no_factor h = h
  factors_ordinary (times f fs) h = factor_ordinary f (factors_ordinary fs h)

  product_ordinary : {n : ℕ} {e : Expression} {ts rest : List Symbol} → IsProduct n e ts rest → all_ordinary rest ≡ true → all_ordinary ts ≡ true
  product_ordinary (factors f fs l) h = factor_ordinary f (factors_ordinary fs h)

  products_ordinary : {n : ℕ} {es : List Expression} {ts rest : List Symbol} → AreProducts n es ts rest → all_ordinary rest ≡ true → all_ordinary ts ≡ true
  products_ordinary no_product h = h
  products_ordinary (plus p ps) h = product_ordinary p (products_ordinary ps h)
  products_ordinary (less p ps) h = product_ordinary p (products_ordinary ps h)

  pub sum_ordinary : {n : ℕ} {e : Expression} {ts rest : List Symbol} → IsSum n e ts rest → all_ordinary rest ≡ true → all_ordinary ts ≡ true
  sum_ordinary (products p ps) h = product_ordinary p (products_ordinary ps h)

relation_ordinary : (kind : TokenKind) (r : Relation) → relation_of kind ≡ Some r → ordinary_kind kind ≡ true
relation_ordinary kinds.Colon r e = absurd cc
relation_ordinary kinds.From r e = absurd cc
relation_ordinary kinds.Name r e = absurd cc
relation_ordinary kinds.Number r e = absurd cc
relation_ordinary kinds.Nondet r e = absurd cc
relation_ordinary kinds.Wide r e = absurd cc
relation_ordinary kinds.Unread r e = absurd cc
relation_ordinary kind r e = refl

mutual
  plain_ordinary : {n : ℕ} {c : Condition} {ts rest : List Symbol} → IsPlain n c ts rest → all_ordinary rest ≡ true → all_ordinary ts ≡ true
  plain_ordinary always h = h
  plain_ordinary never h = h
  plain_ordinary (denied p) h = plain_ordinary p h
  plain_ordinary (conditions.bracketed p) h = condition_ordinary p h

  literal_ordinary : {n : ℕ} {c : Condition} {ts rest : List Symbol} → IsLiteral n c ts rest → all_ordinary rest ≡ true → all_ordinary ts ≡ true
  literal_ordinary (conditions.plain p) h = plain_ordinary p h
  literal_ordinary (comparison {kind} {relation} p is q) h = sum_ordinary p (and_from _ _ (relation_ordinary kind relation is) (sum_ordinary q h))

  literals_ordinary : {n : ℕ} {cs : List Condition} {ts rest : List Symbol} → AreLiterals n cs ts rest → all_ordinary rest ≡ true → all_ordinary ts ≡ true
  literals_ordinary no_literal h = h
  literals_ordinary (and p ps) h = literal_ordinary p (literals_ordinary ps h)

  conjunction_ordinary : {n : ℕ} {c : Condition} {ts rest : List Symbol} → IsConjunction n c ts rest → all_ordinary rest ≡ true → all_ordinary ts ≡ true
  conjunction_ordinary (literals p ps) h = literal_ordinary p (literals_ordinary ps h)

  conjunctions_ordinary : {n : ℕ} {cs : List Condition} {ts rest : List Symbol} → AreConjunctions n cs ts rest → all_ordinary rest ≡ true → all_ordinary ts ≡ true
  conjunctions_ordinary no_conjunction h = h
  conjunctions_ordinary (or p ps) h = conjunction_ordinary p (conjunctions_ordinary ps h)

  pub condition_ordinary : {n : ℕ} {c : Condition} {ts rest : List Symbol} → IsCondition n c ts rest → all_ordinary rest ≡ true → all_ordinary ts ≡ true
  condition_ordinary (conjunctions p ps) h = conjunction_ordinary p (conjunctions_ordinary ps h)

-- ---- numbers stay where names are added

place_stays : {X : Type 0} (p : X → Bool) (xs ys : List X) → position_or_len p xs < length xs → position_or_len p (xs ++ ys) ≡ position_or_len p xs
place_stays p [] ys h = absurd (omega arith)
place_stays {X} p (x ∷ xs) ys h = by (p x) refl (λ l. place_stays p xs ys l)
  where
    by : (b : Bool) → p x ≡ b → (position_or_len p xs < length xs → position_or_len p (xs ++ ys) ≡ position_or_len p xs) → position_or_len p ((x ∷ xs) ++ ys) ≡ position_or_len p (x ∷ xs)
    by true e again = rw e refl
    by false e again = let less : position_or_len p (x ∷ xs) ≡ 1 + position_or_len p xs = rw e refl in rw e (ap (λ (n : ℕ). 1 + n) (again (omega (arith, h, less))))

place_last : {X : Type 0} (p : X → Bool) (xs : List X) (y : X) (ys : List X) → p y ≡ true → (position_or_len p xs < length xs → ⊥) → position_or_len p (xs ++ y ∷ ys) ≡ length xs
place_last p [] y ys e h = rw e refl
place_last {X} p (x ∷ xs) y ys e h = by (p x) refl (λ l. place_last p xs y ys e l)
  where
    by : (b : Bool) → p x ≡ b → ((position_or_len p xs < length xs → ⊥) → position_or_len p (xs ++ y ∷ ys) ≡ length xs) → position_or_len p ((x ∷ xs) ++ y ∷ ys) ≡ length (x ∷ xs)
    by true f again = let none : position_or_len p (x ∷ xs) ≡ 0 = rw f refl in absurd (h (omega (arith, none)))
    by false f again = let one : position_or_len p (x ∷ xs) ≡ 1 + position_or_len p xs = rw f refl in let same = again (λ l. h (omega (arith, one, l))) in rw f (ap (λ (n : ℕ). 1 + n) same ∙ omega arith)

at_place : {X : Type 0} (p : X → Bool) (xs : List X) (k : ℕ) → position_or_len p xs ≡ k → k < length xs → position p xs ≡ Some k
at_place p xs k e l = let on : nat_lt (position_or_len p xs) (length xs) ≡ true = grind (arith, nat_tests) in rw on (ap (λ (n : ℕ). Some n) e)

placed : {X : Type 0} (p : X → Bool) (xs : List X) (k : ℕ) → position p xs ≡ Some k → (position_or_len p xs ≡ k) × (k < length xs)
placed p xs k e = by (nat_lt (position_or_len p xs) (length xs)) refl e
  where
    by : (b : Bool) → nat_lt (position_or_len p xs) (length xs) ≡ b → cond b (Some (position_or_len p xs)) None ≡ Some k → (position_or_len p xs ≡ k) × (k < length xs)
    by true at is = let same : position_or_len p xs ≡ k = cc in let l = ltb-true (position_or_len p xs) (length xs) at in (same, omega (arith, same, l))
    by false at is = absurd cc

not_placed : {X : Type 0} (p : X → Bool) (xs : List X) → position p xs ≡ None → position_or_len p xs < length xs → ⊥
not_placed p xs e l = let on : nat_lt (position_or_len p xs) (length xs) ≡ true = grind (arith, nat_tests) in let some : position p xs ≡ Some (position_or_len p xs) = rw on refl in let no : None ≡ Some (position_or_len p xs) = sym e ∙ some in cc

number_stays : (w : Word) (names more : List Word) (k : ℕ) → number_of w names ≡ Some k → number_of w (names ++ more) ≡ Some k
number_stays w names more k e =
    let h = placed (bytes_eq w) names k e in
    at_place (bytes_eq w) (names ++ more) k (place_stays (bytes_eq w) names more (omega (arith, h.0, h.1)) ∙ h.0) (omega (arith, h.1, length-append names more))

number_last : (w : Word) (names more : List Word) → number_of w names ≡ None → number_of w (names ++ w ∷ more) ≡ Some (length names)
number_last w names more e = at_place (bytes_eq w) (names ++ w ∷ more) (length names) (place_last (bytes_eq w) names w more (bytes-same w) (not_placed (bytes_eq w) names e)) (omega (arith, length-append names (w ∷ more)))

-- ---- one token

-- the names that a vocabulary has begin with these
abbrev pub Begins : Vocabulary → List Word → Type 0
Begins v names = (more : List Word) × (v.variables ≡ names ++ more)

name_by : (o : Option ℕ) (v : Vocabulary) (w : Word) (names : List Word) → o ≡ number_of w names → Begins v (cond (nat_lt (length names) 512) (with_new o w names) names) → ordinary (symbol_of (new_name o (length names))) ≡ true → numbered name (number_of w v.variables) ≡ symbol_of (new_name o (length names))
name_by (Some k) v w names e b h = by (nat_lt (length names) 512) b
  where
    by : (t : Bool) → Begins v (cond t names names) → numbered name (number_of w v.variables) ≡ name k
    by true c = ap (λ (ws : List Word). numbered name (number_of w ws)) c.1 ∙ ap (numbered name) (number_stays w names c.0 k (sym e))
    by false c = ap (λ (ws : List Word). numbered name (number_of w ws)) c.1 ∙ ap (numbered name) (number_stays w names c.0 k (sym e))
name_by None v w names e b h = by (nat_lt (length names) 512) b h
  where
    by : (t : Bool) → Begins v (cond t (names ++ w ∷ []) names) → ordinary (symbol_of (cond t (plain (name (length names))) (refused TooMany kinds.Name))) ≡ true → numbered name (number_of w v.variables) ≡ symbol_of (cond t (plain (name (length names))) (refused TooMany kinds.Name))
    by true c g = ap (λ (ws : List Word). numbered name (number_of w ws)) (c.1 ∙ append_assoc names (w ∷ []) c.0) ∙ ap (numbered name) (number_last w names c.0 (sym e))
    by false c g = absurd cc

number_by : (n : ℕ) → ordinary (symbol_of (number_mark n)) ≡ true → number n ≡ symbol_of (number_mark n)
number_by n h = by (nat_lt n (2 ^ 62)) h
  where
    by : (t : Bool) → ordinary (symbol_of (cond t (plain (number n)) (plain (fixed kinds.Wide)))) ≡ true → number n ≡ symbol_of (cond t (plain (number n)) (plain (fixed kinds.Wide)))
    by true g = refl
    by false g = absurd cc

-- the symbol of a token, the draws after it, and that it is no colon
record Same (v : Vocabulary) (names : List Word) (draws : ℕ) (kind : TokenKind) (w : Word) : Type 0 where
  symbol : symbol_by v false draws kind w ≡ symbol_of (mark_by true names draws kind w)
  no_colon : is_colon kind ≡ false
  counted : symbols.draws_behind kind draws ≡ draws_behind kind draws

draw_by : (v : Vocabulary) (names : List Word) (draws : ℕ) (w : Word) → ordinary (symbol_of (draw_mark true draws)) ≡ true → Same v names draws kinds.Nondet w
draw_by v names draws w h = record { symbol = (by (nat_lt draws 64) h).0; no_colon = refl; counted = (by (nat_lt draws 64) h).1 }
  where
    by : (t : Bool) → ordinary (symbol_of (cond t (plain (drawn draws)) (refused TooMany kinds.Nondet))) ≡ true → (drawn draws ≡ symbol_of (cond t (plain (drawn draws)) (refused TooMany kinds.Nondet))) × (suc draws ≡ cond t (suc draws) draws)
    by true g = (refl, refl)
    by false g = absurd cc

one_same : (v : Vocabulary) (names : List Word) (draws : ℕ) (kind : TokenKind) (w : Word) → Begins v (names_behind true kind w names) → ordinary (symbol_of (mark_by true names draws kind w)) ≡ true → Same v names draws kind w
one_same v names draws kinds.Name w b h = record { symbol = name_by (number_of w names) v w names refl b h; no_colon = refl; counted = refl }
one_same v names draws kinds.Number w b h = record { symbol = number_by (value_of_digits w) h; no_colon = refl; counted = refl }
one_same v names draws kinds.Nondet w b h = draw_by v names draws w h
one_same v names draws kinds.Colon w b h = absurd cc
one_same v names draws kinds.From w b h = absurd cc
one_same v names draws kind w b h = record { symbol = refl; no_colon = refl; counted = refl }

-- ---- all tokens that are read

-- The tokens from the one place to the other have the symbols of the marks that are passed, and nothing else of the rest depends on
-- them than the count of draws.
pub record Spelled (v : Vocabulary) (s u : Stand) (passed : List Mark) : Type 0 where
  pub tokens : List Token
  pub parts : drop s.at s.tokens ≡ tokens ++ drop u.at u.tokens
  pub same : (rest : List Lexeme) → symbols_from v false s.draws (lexemes s.text tokens ++ rest) ≡ symbols_of passed ++ symbols_from v false u.draws rest

lexemes-append : (text : List ℕ) (ts us : List Token) → lexemes text (ts ++ us) ≡ lexemes text ts ++ lexemes text us
lexemes-append text [] us = refl
lexemes-append text (t ∷ ts) us = ap (λ (xs : List Lexeme). lexeme text t ∷ xs) (lexemes-append text ts us)

one_more : (v : Vocabulary) (s u : Stand) (t : Token) (passed : List Mark) → s.text ≡ u.text → u.grows ≡ true → first (drop u.at u.tokens) ≡ Some t → Begins v (past u t).names → ordinary (symbol_of (mark_by u.grows u.names u.draws t.kind (lexeme u.text t).word)) ≡ true → Spelled v s u passed → Spelled v s (past u t) (passed ++ mark_by u.grows u.names u.draws t.kind (lexeme u.text t).word ∷ [])
one_more v s u t passed text grows e b h w =
    let m : Mark = mark_by u.grows u.names u.draws t.kind (lexeme u.text t).word in
    let g : Same v u.names u.draws t.kind (lexeme u.text t).word = one_same v u.names u.draws t.kind (lexeme u.text t).word (subst (λ (c : Bool). Begins v (names_behind c t.kind (lexeme u.text t).word u.names)) grows b) (subst (λ (c : Bool). ordinary (symbol_of (mark_by c u.names u.draws t.kind (lexeme u.text t).word)) ≡ true) grows h) in
    let sym_is : symbol_by v false u.draws t.kind (lexeme u.text t).word ≡ symbol_of m = g.symbol ∙ ap (λ (c : Bool). symbol_of (mark_by c u.names u.draws t.kind (lexeme u.text t).word)) (sym grows) in
    record {
      tokens = w.tokens ++ t ∷ [];
      parts = w.parts ∙ ap (λ (ts : List Token). w.tokens ++ ts) (starts (drop u.at u.tokens) t e ∙ ap (λ (ts : List Token). t ∷ ts) (drop-drop 1 u.at u.tokens)) ∙ sym (append_assoc w.tokens (t ∷ []) (drop (past u t).at u.tokens));
      same = λ rest.
          ap (λ (xs : List Lexeme). symbols_from v false s.draws (xs ++ rest)) (lexemes-append s.text w.tokens (t ∷ []))
          ∙ ap (symbols_from v false s.draws) (append_assoc (lexemes s.text w.tokens) (lexeme s.text t ∷ []) rest)
          ∙ w.same (lexeme s.text t ∷ rest)
          ∙ ap (λ (bytes : List ℕ). symbols_of passed ++ symbols_from v false u.draws (lexeme bytes t ∷ rest)) text
          ∙ ap (λ (x : Symbol). symbols_of passed ++ x ∷ symbols_from v (is_colon t.kind) (symbols.draws_behind t.kind u.draws) rest) sym_is
          ∙ ap (λ (c : Bool). symbols_of passed ++ symbol_of m ∷ symbols_from v c (symbols.draws_behind t.kind u.draws) rest) g.no_colon
          ∙ ap (λ (d : ℕ). symbols_of passed ++ symbol_of m ∷ symbols_from v false d rest) g.counted
          ∙ sym (append_assoc (symbols_of passed) (symbol_of m ∷ []) (symbols_from v false (past u t).draws rest))
          ∙ ap (λ (ss : List Symbol). ss ++ symbols_from v false (past u t).draws rest) (sym (symbols-append passed (m ∷ [])));
    }

-- ---- what is read, as a text over a vocabulary

-- The tokens from the one place to the other are a text that stands for x, over the vocabulary, whatever stands after them.
pub record ReadOver {X : Type 0} (IsText : X → List Symbol → List Symbol → Type 0) (x : X) (v : Vocabulary) (s u : Stand) : Type 0 where
  pub tokens : List Token
  pub parts : drop s.at s.tokens ≡ tokens ++ drop u.at u.tokens
  pub is : (rest : List Lexeme) → IsText x (symbols_from v false s.draws (lexemes s.text tokens ++ rest)) (symbols_from v false u.draws rest)
