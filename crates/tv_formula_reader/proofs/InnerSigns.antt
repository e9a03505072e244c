-- No sign of a formula ends a text, and the tokens of a text have a sign that does.
use Rattle.std.proofs.Common.{◌≡◌, ℕ, ◌+◌, ◌≤◌, Bool, true, false, List, [], ◌∷◌, ◌++◌, Some, refl, ap, ◌∙◌, arith}
use Rattle.std.specs.Prelude.{◌&&◌}
use Rattle.tv_language.specs.declared.token.TokenKind.{TokenKind}
use Rattle.tv_language.specs.declared.token.TokenKind.TheVariants as kinds
use Rattle.tv_language.specs.declared.token.Token.{Token}
use Rattle.tv_language.specs.Tokens.{IsTokens, end, gap, solid, unread}
use Rattle.tv_language.specs.Symbols.{Symbol, label, fixed, Vocabulary}
use Rattle.tv_language.specs.Conditions.{relation_of}
use Rattle.tv_program.specs.declared.tree.Relation.{Relation}
use Rattle.tv_formula.specs.Properties.{Property}
use Rattle.tv_program.specs.Words.{Word}
use Rattle.tv_formula_reader.specs.declared.operators.Operator.{Operator}
use Rattle.tv_formula_reader.specs.declared.operators.Operator.TheVariants.{One, Two}
use Rattle.tv_formula_reader.specs.Operators.{operator_of}
use Rattle.tv_formula_reader.specs.Signs.{Sign, symbols_of}
use Rattle.tv_formula_reader.specs.Seen.{Seen, seen_all}
use Rattle.tv_formula_reader.specs.FormulaTexts.{IsPlain, always, never, ends, located, denied, bracketed, of_one, of_two, IsArgument, enclosed, IsLiteral, plain, comparison, AreLiterals, no_literal, and, IsConjunction, literals, AreConjunctions, no_conjunction, or, IsFormula, conjunctions}
use Rattle.tv_formula_reader.proofs.FormulaTexts.{sign_of, signs_of}
use Rattle.tv_formula_reader.proofs.InnerSums.{counted, closing_of, closing, sum_inner}

-- ---- how many signs end a text

abbrev has_no_word : Word → Bool
has_no_word [] = true
has_no_word (x ∷ w) = false

abbrev closes : Sign → Bool
closes t = closing_of t.symbol && (closing_of t.label && has_no_word t.word)

abbrev pub closed : List Sign → ℕ
closed [] = 0
closed (t ∷ ts) = counted (closes t) (closed ts)

counted-plus : (b : Bool) (m n k : ℕ) → m ≡ n + k → counted b m ≡ counted b n + k
counted-plus true m n k e = omega (arith, e)
counted-plus false m n k e = e

pub closed-append : (a b : List Sign) → closed (a ++ b) ≡ closed a + closed b
closed-append [] b = omega arith
closed-append (t ∷ a) b = counted-plus (closes t) (closed (a ++ b)) (closed a) (closed b) (closed-append a b)

-- a sign is inside by what it is, by its label or by its word
by_symbol : (t : Sign) (ts : List Sign) → closing_of t.symbol ≡ false → closed (t ∷ ts) ≡ closed ts
by_symbol t ts e = ap (λ (b : Bool). counted (b && (closing_of t.label && has_no_word t.word)) (closed ts)) e

not_second : (a b c : Bool) → b ≡ false → (a && (b && c)) ≡ false
not_second true true c e = absurd cc
not_second true false c e = refl
not_second false b c e = refl

not_third : (a b c : Bool) → c ≡ false → (a && (b && c)) ≡ false
not_third true true c e = e
not_third true false c e = refl
not_third false b c e = refl

by_label : (t : Sign) (ts : List Sign) → closing_of t.label ≡ false → closed (t ∷ ts) ≡ closed ts
by_label t ts e = ap (λ (b : Bool). counted b (closed ts)) (not_second (closing_of t.symbol) (closing_of t.label) (has_no_word t.word) e)

by_word : (t : Sign) (ts : List Sign) → has_no_word t.word ≡ false → closed (t ∷ ts) ≡ closed ts
by_word t ts e = ap (λ (b : Bool). counted b (closed ts)) (not_third (closing_of t.symbol) (closing_of t.label) (has_no_word t.word) e)

some_word : (w : Word) (o : Operator) → operator_of w ≡ Some o → has_no_word w ≡ false
some_word [] o e = absurd cc
some_word (x ∷ w) o e = refl

none_more : (b c : Bool) (m n : ℕ) → (m ≡ 0 → n ≡ 0) → counted b m ≡ 0 → counted (b && c) n ≡ 0
none_more true c m n f h = absurd (omega (arith, h))
none_more false c m n f h = f h

none_closed : (ts : List Sign) → closing (symbols_of ts) ≡ 0 → closed ts ≡ 0
none_closed [] h = refl
none_closed (t ∷ ts) h = none_more (closing_of t.symbol) (closing_of t.label && has_no_word t.word) (closing (symbols_of ts)) (closed ts) (none_closed ts) h

related : (kind : TokenKind) (r : Relation) → relation_of kind ≡ Some r → closing_of (fixed kind) ≡ false
related kinds.End r e = absurd cc
related kinds.Unread r e = absurd cc
related kind r e = refl

-- ---- in a formula

compared : (left : List Sign) (t : Sign) (right rest : List Sign) → closing (symbols_of left) ≡ 0 → closing_of t.symbol ≡ false → closing (symbols_of right) ≡ 0 → closed (left ++ (t ∷ (right ++ rest))) ≡ closed rest
compared left t right rest a b c =
    let l = none_closed left a in
    let r = none_closed right c in
    let first = closed-append left (t ∷ (right ++ rest)) in
    let second = by_symbol t (right ++ rest) b in
    let third = closed-append right rest in
    omega (arith, l, r, first, second, third)

operator_inner : (o t c : Sign) (ts : List Sign) (x : Operator) → o.symbol ≡ fixed kinds.LeftSquare → operator_of t.word ≡ Some x → c.symbol ≡ fixed kinds.RightSquare → closed (o ∷ t ∷ c ∷ ts) ≡ closed ts
operator_inner o t c ts x a w b = by_symbol o (t ∷ c ∷ ts) (ap closing_of a) ∙ by_word t (c ∷ ts) (some_word t.word x w) ∙ by_symbol c ts (ap closing_of b)

mutual
  plain_inner : {n : ℕ} {f : Property} {ts rest : List Sign} → IsPlain n f ts rest → closed ts ≡ closed rest
  plain_inner (always {n} {t} {rest} e) = by_symbol t rest (ap closing_of e)
  plain_inner (never {n} {t} {rest} e) = by_symbol t rest (ap closing_of e)
  plain_inner (ends {n} {t} {rest} e w) = by_symbol t rest (ap closing_of e)
  plain_inner (located {n} {l} {a} {o} {t} {c} {rest} x w y z u) = by_symbol a (o ∷ t ∷ c ∷ rest) (ap closing_of x) ∙ by_symbol o (t ∷ c ∷ rest) (ap closing_of y) ∙ by_label t (c ∷ rest) (ap closing_of z) ∙ by_symbol c rest (ap closing_of u)
  plain_inner (denied {n} {t} {f} {ts} {rest} e d) = by_symbol t ts (ap closing_of e) ∙ plain_inner d
  plain_inner (bracketed d) = argument_inner d
  plain_inner (of_one {n} {o} {t} {c} {p} {k} {f} {ts} {rest} x w y d) = operator_inner o t c ts (One p k) x w y ∙ argument_inner d
  plain_inner (of_two {n} {o} {t} {c} {p} {s} {f} {g} {ts} {us} {rest} x w y d e) = operator_inner o t c ts (Two p s) x w y ∙ argument_inner d ∙ argument_inner e

  argument_inner : {n : ℕ} {f : Property} {ts rest : List Sign} → IsArgument n f ts rest → closed ts ≡ closed rest
  argument_inner (enclosed {n} {o} {c} {f} {ts} {rest} x d y) = by_symbol o ts (ap closing_of x) ∙ formula_inner d ∙ by_symbol c rest (ap closing_of y)

  literal_inner : {n : ℕ} {f : Property} {ts rest : List Sign} → IsLiteral n f ts rest → closed ts ≡ closed rest
  literal_inner (plain d) = plain_inner d
  literal_inner (comparison {n} {a} {b} {kind} {relation} {rest} left t right first e r second) = compared left t right rest (sum_inner first) (ap closing_of e ∙ related kind relation r) (sum_inner second)

  literals_inner : {n : ℕ} {fs : List Property} {ts rest : List Sign} → AreLiterals n fs ts rest → closed ts ≡ closed rest
  literals_inner no_literal = refl
  literals_inner (and {n} {t} {f} {fs} {ts} {us} {rest} e d ds) = by_symbol t ts (ap closing_of e) ∙ literal_inner d ∙ literals_inner ds

  conjunction_inner : {n : ℕ} {f : Property} {ts rest : List Sign} → IsConjunction n f ts rest → closed ts ≡ closed rest
  conjunction_inner (literals d ds) = literal_inner d ∙ literals_inner ds

  conjunctions_inner : {n : ℕ} {fs : List Property} {ts rest : List Sign} → AreConjunctions n fs ts rest → closed ts ≡ closed rest
  conjunctions_inner no_conjunction = refl
  conjunctions_inner (or {n} {t} {f} {fs} {ts} {us} {rest} e d ds) = by_symbol t ts (ap closing_of e) ∙ conjunction_inner d ∙ conjunctions_inner ds

  pub formula_inner : {n : ℕ} {f : Property} {ts rest : List Sign} → IsFormula n f ts rest → closed ts ≡ closed rest
  formula_inner (conjunctions d ds) = conjunction_inner d ∙ conjunctions_inner ds

-- ---- in a text

counted_some : (b : Bool) (n : ℕ) → 1 ≤ n → 1 ≤ counted b n
counted_some true n h = omega arith
counted_some false n h = h

pub tokens_closed : {at : ℕ} {part : List ℕ} {ts : List Token} (v : Vocabulary) (text : List ℕ) → IsTokens at part ts → 1 ≤ closed (signs_of (seen_all v text ts))
tokens_closed v text (end e) = omega arith
tokens_closed v text (gap n e more) = tokens_closed v text more
tokens_closed v text (solid kind n e more) = counted_some _ _ (tokens_closed v text more)
tokens_closed v text (unread e) = omega arith
