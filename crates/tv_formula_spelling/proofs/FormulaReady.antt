-- What a text shows of a formula, so that its spelling is a text of it, too.
use Rattle.std.proofs.Common.{◌≡◌, ℕ, suc, ◌^◌, ◌≤◌, Bool, true, false, cond, List, [], ◌∷◌, ◌++◌, max, length, Option, Some, None, refl, sym, ap, subst, ◌∙◌, arith}
use Rattle.std.proofs.lemmas.Bool.Decides.{nat_tests}
use Rattle.std.specs.Prelude.{◌||◌, nat_lt, slice_index_or}
use Rattle.std.specs.Str.{bytes_eq}
use Rattle.tv_language.specs.declared.token.TokenKind.{TokenKind}
use Rattle.tv_language.specs.declared.token.TokenKind.TheVariants as kinds
use Rattle.tv_language.specs.Numbers.{value_of_digits}
use Rattle.tv_program.specs.Words.{Word, number_of}
use Rattle.tv_program.specs.Trees.{Expression}
use Rattle.tv_language.specs.Symbols.{Symbol, number, name, label, drawn, fixed, numbered, Vocabulary, Lexeme}
use Rattle.tv_language.specs.Sums.{IsSum}
use Rattle.tv_language.proofs.PlaceOfWords.{found}
use Rattle.tv_formula.specs.declared.tree.Path.{Path}
use Rattle.tv_formula.specs.Properties.{Property, truth, compare, at, term, negated, all_of, some_of, next, fix, Properties, none, more}
use Rattle.tv_formula.specs.Views.{properties_of}
use Rattle.tv_reading.specs.Marks.{is_formula_word}
use Rattle.tv_reading.proofs.PassedLemmas.{position_within}
use Rattle.tv_formula_reader.specs.declared.operators.Single.{Single}
use Rattle.tv_formula_reader.specs.declared.operators.Single.TheVariants.{Successor, Finally, Globally}
use Rattle.tv_formula_reader.specs.Operators.{applied}
use Rattle.tv_formula_reader.specs.Signs.{Sign, symbol_in, label_in, signs, symbols_of}
use Rattle.tv_formula_reader.specs.FormulaTexts.{joined, IsPlain, always, never, ends, located, denied, bracketed, of_one, of_two, IsArgument, enclosed, IsLiteral, plain, comparison, AreLiterals, no_literal, and, IsConjunction, literals, AreConjunctions, no_conjunction, or, IsFormula, conjunctions}
use Rattle.tv_spelling.proofs.SumLevels.{bracket_levels, sum_levels}
use Rattle.tv_spelling.proofs.SumLeast.{bracket_most, bracket_least, sum_least}
use Rattle.tv_spelling.proofs.KnownNames.{IsKnown}
use Rattle.tv_spelling.proofs.FrontWords as words
use Rattle.tv_spelling.proofs.FrontWords.{IsLabelWord, named, IsWordOf, AreRead}
use Rattle.tv_spelling.proofs.ProgramPieces.{kind_by, label_kind, number_begins_no_name}
use Rattle.tv_formula_spelling.specs.Formulas.{is_joined, is_all, is_some}
use Rattle.tv_spelling.proofs.ConditionLeast.{conjunction_fewer}

-- ---- the symbols and labels of a text

-- a name that its word gives back, a number below 2^62, or neither; no draw
abbrev pub IsGood : List Word → Symbol → Type 0
IsGood ws (number k) = nat_lt k (2 ^ 62) ≡ true
IsGood ws (name v) = IsKnown ws v × (nat_lt v (length ws) ≡ true) × (is_formula_word (slice_index_or ws v []) ≡ false)
IsGood ws (drawn d) = ⊥
IsGood ws s = Unit {0}

abbrev pub AreGood : List Word → List Symbol → Type 0
AreGood ws [] = Unit {0}
AreGood ws (s ∷ ss) = IsGood ws s × AreGood ws ss

-- a label that its word gives back
abbrev pub IsPlace : List Word → ℕ → Type 0
IsPlace ls l = IsLabelWord (slice_index_or ls l []) × (label_in ls (label_kind (slice_index_or ls l [])) (slice_index_or ls l []) ≡ label l)

abbrev pub HasPlace : List Word → Symbol → Type 0
HasPlace ls (label l) = IsPlace ls l
HasPlace ls s = Unit {0}

abbrev pub AreGoodSigns : Vocabulary → List Sign → Type 0
AreGoodSigns v [] = Unit {0}
AreGoodSigns v (t ∷ ts) = IsGood v.variables t.symbol × HasPlace v.labels t.label × AreGoodSigns v ts

below : (w : Word) (ws : List Word) (k : ℕ) → number_of w ws ≡ Some k → nat_lt k (length ws) ≡ true
below w ws k e = let l = position_within (bytes_eq w) ws k e in grind (arith, nat_tests)

name_good : (ws : List Word) (w : Word) → IsWordOf kinds.Name w → (b : Bool) (o : Option ℕ) → is_formula_word w ≡ b → number_of w ws ≡ o → IsGood ws (cond b (fixed kinds.Name) (numbered name o))
name_good ws w h true o e f = tt
name_good ws w h false None e f = tt
name_good ws w h false (Some k) e f =
    let same : w ≡ slice_index_or ws k [] = sym (found w ws k f) in
    subst (λ (u : Word). IsKnown ws k × (nat_lt k (length ws) ≡ true) × (is_formula_word u ≡ false)) same
    (record { name = subst (λ (u : Word). IsWordOf kinds.Name u) same h; placed = subst (λ (u : Word). number_of u ws ≡ Some k) same f }, below w ws k f, e)

number_good : (ws : List Word) (n : ℕ) (b : Bool) → nat_lt n (2 ^ 62) ≡ b → IsGood ws (cond b (number n) (fixed kinds.Wide))
number_good ws n true e = e
number_good ws n false e = tt

symbol_good : (ws : List Word) (kind : TokenKind) (w : Word) → IsWordOf kind w → IsGood ws (symbol_in ws kind w)
symbol_good ws kinds.Name w h = name_good ws w h (is_formula_word w) (number_of w ws) refl refl
symbol_good ws kinds.Number w h = number_good ws (value_of_digits w) (nat_lt (value_of_digits w) (2 ^ 62)) refl
symbol_good ws kind w h = tt

word_place : (ls : List Word) (w : Word) (k : ℕ) (kind : TokenKind) → number_of w ls ≡ Some k → IsLabelWord w → label_kind w ≡ kind → label_in ls kind w ≡ label k → IsPlace ls k
word_place ls w k kind f h is e =
    subst (λ (u : Word). IsLabelWord u × (label_in ls (label_kind u) u ≡ label k)) (sym (found w ls k f)) (h, ap (λ (j : TokenKind). label_in ls j w) is ∙ e)

name_place : (ls : List Word) (w : Word) → IsWordOf kinds.Name w → (b : Bool) (o : Option ℕ) → is_formula_word w ≡ b → number_of w ls ≡ o → HasPlace ls (cond b (fixed kinds.Name) (numbered label o))
name_place ls w h true o e f = tt
name_place ls w h false None e f = tt
name_place ls w h false (Some k) e f =
    word_place ls w k kinds.Name f (named h) (ap kind_by h.begins) (ap (λ (b : Bool). cond b (fixed kinds.Name) (numbered label (number_of w ls))) e ∙ ap (numbered label) f)

number_place : (ls : List Word) (w : Word) → IsWordOf kinds.Number w → (o : Option ℕ) → number_of w ls ≡ o → HasPlace ls (numbered label o)
number_place ls w h None f = tt
number_place ls w h (Some k) f = word_place ls w k kinds.Number f (words.numbered h) (ap kind_by (number_begins_no_name w h)) (ap (numbered label) f)

label_good : (ls : List Word) (kind : TokenKind) (w : Word) → IsWordOf kind w → HasPlace ls (label_in ls kind w)
label_good ls kinds.Name w h = name_place ls w h (is_formula_word w) (number_of w ls) refl refl
label_good ls kinds.Number w h = number_place ls w h (number_of w ls) refl
label_good ls kind w h = tt

pub signs_good : (v : Vocabulary) (xs : List Lexeme) → AreRead xs → AreGoodSigns v (signs v xs)
signs_good v [] h = tt
signs_good v (x ∷ xs) h = (symbol_good v.variables x.kind x.word h.0, label_good v.labels x.kind x.word h.0, signs_good v xs h.1)

good_front : (v : Vocabulary) (ts us : List Sign) → AreGoodSigns v (ts ++ us) → AreGood v.variables (symbols_of ts) × AreGoodSigns v us
good_front v [] us h = (tt, h)
good_front v (t ∷ ts) us h = let w = good_front v ts us h.2 in ((h.0, w.0), w.1)

-- ---- a formula that can be written

-- a sum that symbols of a text stand for
pub record SumReady (ws : List Word) (e : Expression) : Type 0 where
  pub levels : ℕ
  pub text : List Symbol
  pub derived : IsSum levels e text []
  pub good : AreGood ws text

abbrev pub are_two : Properties → Bool
are_two (more f (more g fs)) = true
are_two fs = false

abbrev mutual
  pub Ready : Vocabulary → Property → Type 0
  Ready v (truth b) = Unit {0}
  Ready v (compare r a b) = SumReady v.variables a × SumReady v.variables b
  Ready v (at l) = IsPlace v.labels l
  Ready v term = Unit {0}
  Ready v (negated f) = Ready v f
  Ready v (all_of fs) = (are_two fs ≡ true) × AllReady v fs
  Ready v (some_of fs) = (are_two fs ≡ true) × AllReady v fs
  Ready v (next p f) = Ready v f
  Ready v (fix p s f g) = Ready v f × Ready v g

  pub AllReady : Vocabulary → Properties → Type 0
  AllReady v none = Unit {0}
  AllReady v (more f fs) = Ready v f × AllReady v fs

-- ---- how deep its text is nested

abbrev mutual
  pub formula_levels : Property → ℕ
  formula_levels (truth b) = 0
  formula_levels (compare r a b) = max (sum_levels a) (sum_levels b)
  formula_levels (at l) = 0
  formula_levels term = 0
  formula_levels (negated f) = suc (bracket_levels (is_joined f) (formula_levels f))
  formula_levels (all_of fs) = all_levels fs
  formula_levels (some_of fs) = some_levels fs
  formula_levels (next p f) = suc (formula_levels f)
  formula_levels (fix p s f g) = suc (max (formula_levels f) (formula_levels g))

  pub all_levels : Properties → ℕ
  all_levels none = 0
  all_levels (more f fs) = max (bracket_levels (is_all f || is_some f) (formula_levels f)) (all_levels fs)

  pub some_levels : Properties → ℕ
  some_levels none = 0
  some_levels (more f fs) = max (bracket_levels (is_some f) (formula_levels f)) (some_levels fs)

abbrev pub plain_levels : Property → ℕ
plain_levels f = bracket_levels (is_joined f) (formula_levels f)

abbrev pub literal_levels : Property → ℕ
literal_levels f = bracket_levels (is_all f || is_some f) (formula_levels f)

abbrev pub conjunction_levels : Property → ℕ
conjunction_levels f = bracket_levels (is_some f) (formula_levels f)

-- ---- what a derivation shows

-- the formula can be written within n levels, and what is left is as good
pub record Shown (v : Vocabulary) (Whole : Type 0) (levels n : ℕ) (rest : List Sign) : Type 0 where
  pub ready : Whole
  pub within : levels ≤ n
  pub behind : AreGoodSigns v rest

literal_fewer : (f : Property) (n : ℕ) → plain_levels f ≤ n → literal_levels f ≤ n
literal_fewer (compare r a b) n h = let k : suc (max (sum_levels a) (sum_levels b)) ≤ n = h in omega arith
literal_fewer (truth b) n h = h
literal_fewer (at l) n h = h
literal_fewer term n h = h
literal_fewer (negated f) n h = h
literal_fewer (all_of fs) n h = h
literal_fewer (some_of fs) n h = h
literal_fewer (next p f) n h = h
literal_fewer (fix p s f g) n h = h

one_conjunction : (v : Vocabulary) (f : Property) (fs : List Property) (n : ℕ) (us rest : List Sign) → Shown v (Ready v f) (literal_levels f) n us → Shown v (AllReady v (properties_of fs)) (all_levels (properties_of fs)) n rest
    → Shown v (Ready v (joined all_of (f ∷ fs))) (conjunction_levels (joined all_of (f ∷ fs))) n rest
one_conjunction v f [] n us rest h k = record { ready = h.ready; within = conjunction_fewer (is_all f) (is_some f) (formula_levels f) n h.within; behind = k.behind }
one_conjunction v f (g ∷ fs) n us rest h k = record {
  ready = (refl, (h.ready, k.ready));
  within = let a : literal_levels f ≤ n = h.within in let b : all_levels (properties_of (g ∷ fs)) ≤ n = k.within in omega arith;
  behind = k.behind;
}

one_formula : (v : Vocabulary) (f : Property) (fs : List Property) (n : ℕ) (us rest : List Sign) → Shown v (Ready v f) (conjunction_levels f) n us → Shown v (AllReady v (properties_of fs)) (some_levels (properties_of fs)) n rest
    → Shown v (Ready v (joined some_of (f ∷ fs))) (formula_levels (joined some_of (f ∷ fs))) n rest
one_formula v f [] n us rest h k = record { ready = h.ready; within = bracket_least (is_some f) (formula_levels f) n h.within; behind = k.behind }
one_formula v f (g ∷ fs) n us rest h k = record {
  ready = (refl, (h.ready, k.ready));
  within = let a : conjunction_levels f ≤ n = h.within in let b : some_levels (properties_of (g ∷ fs)) ≤ n = k.within in omega arith;
  behind = k.behind;
}

one_argument : (v : Vocabulary) (p : Path) (k : Single) (f : Property) (n : ℕ) (rest : List Sign) → Shown v (Ready v f) (formula_levels f) n rest → Shown v (Ready v (applied p k f)) (plain_levels (applied p k f)) (suc n) rest
one_argument v p Successor f n rest h = record { ready = h.ready; within = let l : formula_levels f ≤ n = h.within in omega arith; behind = h.behind }
one_argument v p Finally f n rest h = record { ready = (tt, h.ready); within = let l : formula_levels f ≤ n = h.within in omega arith; behind = h.behind }
one_argument v p Globally f n rest h = record { ready = (h.ready, tt); within = let l : formula_levels f ≤ n = h.within in omega arith; behind = h.behind }

mutual
  plain_shown : (v : Vocabulary) {n : ℕ} {f : Property} {ts rest : List Sign} → IsPlain n f ts rest → AreGoodSigns v ts → Shown v (Ready v f) (plain_levels f) n rest
  plain_shown v (always e) g = record { ready = tt; within = omega arith; behind = g.2 }
  plain_shown v (never e) g = record { ready = tt; within = omega arith; behind = g.2 }
  plain_shown v (ends e w) g = record { ready = tt; within = omega arith; behind = g.2 }
  plain_shown v (located a w o l c) g = record { ready = subst (HasPlace v.labels) l g.2.2.1; within = omega arith; behind = g.2.2.2.2 }
  plain_shown v (denied {n = m} {f = inner} e d) g = let s = plain_shown v d g.2 in record { ready = s.ready; within = let l : plain_levels inner ≤ m = s.within in omega arith; behind = s.behind }
  plain_shown v (bracketed {n = m} {f} d) g = let s = argument_shown v d g in record { ready = s.ready; within = bracket_most (is_joined f) (formula_levels f) m s.within; behind = s.behind }
  plain_shown v (of_one {n = m} {p} {k} {f = inner} {rest} o w c d) g = one_argument v p k inner m rest (argument_shown v d g.2.2.2)
  plain_shown v (of_two {n = m} {f = first} {g = second} o w c d e) g =
      let s = argument_shown v d g.2.2.2 in
      let t = argument_shown v e s.behind in
      record { ready = (s.ready, t.ready); within = let a : formula_levels first ≤ m = s.within in let b : formula_levels second ≤ m = t.within in omega arith; behind = t.behind }

  argument_shown : (v : Vocabulary) {n : ℕ} {f : Property} {ts rest : List Sign} → IsArgument n f ts rest → AreGoodSigns v ts → Shown v (Ready v f) (formula_levels f) n rest
  argument_shown v (enclosed o d c) g = let s = formula_shown v d g.2 in record { ready = s.ready; within = s.within; behind = s.behind.2 }

  literal_shown : (v : Vocabulary) {n : ℕ} {f : Property} {ts rest : List Sign} → IsLiteral n f ts rest → AreGoodSigns v ts → Shown v (Ready v f) (literal_levels f) n rest
  literal_shown v (plain {n = m} {f} d) g = let s = plain_shown v d g in record { ready = s.ready; within = literal_fewer f m s.within; behind = s.behind }
  literal_shown v (comparison {n = m} {a} {b} {rest} left t right d is r e) g =
      let first = good_front v left (t ∷ (right ++ rest)) g in
      let second = good_front v right rest first.1.2 in
      let x : sum_levels a ≤ m = (sum_least m a (symbols_of left) [] d).1 in
      let y : sum_levels b ≤ m = (sum_least m b (symbols_of right) [] e).1 in
      record {
        ready = (record { levels = m; text = symbols_of left; derived = d; good = first.0 }, record { levels = m; text = symbols_of right; derived = e; good = second.0 });
        within = omega arith;
        behind = second.1;
      }

  literals_shown : (v : Vocabulary) {n : ℕ} {fs : List Property} {ts rest : List Sign} → AreLiterals n fs ts rest → AreGoodSigns v ts → Shown v (AllReady v (properties_of fs)) (all_levels (properties_of fs)) n rest
  literals_shown v no_literal g = record { ready = tt; within = omega arith; behind = g }
  literals_shown v (and {n = m} {f} {fs} e d ds) g =
      let s = literal_shown v d g.2 in
      let t = literals_shown v ds s.behind in
      record { ready = (s.ready, t.ready); within = let a : literal_levels f ≤ m = s.within in let b : all_levels (properties_of fs) ≤ m = t.within in omega arith; behind = t.behind }

  conjunction_shown : (v : Vocabulary) {n : ℕ} {f : Property} {ts rest : List Sign} → IsConjunction n f ts rest → AreGoodSigns v ts → Shown v (Ready v f) (conjunction_levels f) n rest
  conjunction_shown v (literals {n = m} {f} {fs} {us} {rest} d ds) g = let s = literal_shown v d g in one_conjunction v f fs m us rest s (literals_shown v ds s.behind)

  conjunctions_shown : (v : Vocabulary) {n : ℕ} {fs : List Property} {ts rest : List Sign} → AreConjunctions n fs ts rest → AreGoodSigns v ts → Shown v (AllReady v (properties_of fs)) (some_levels (properties_of fs)) n rest
  conjunctions_shown v no_conjunction g = record { ready = tt; within = omega arith; behind = g }
  conjunctions_shown v (or {n = m} {f} {fs} e d ds) g =
      let s = conjunction_shown v d g.2 in
      let t = conjunctions_shown v ds s.behind in
      record { ready = (s.ready, t.ready); within = let a : conjunction_levels f ≤ m = s.within in let b : some_levels (properties_of fs) ≤ m = t.within in omega arith; behind = t.behind }

  pub formula_shown : (v : Vocabulary) {n : ℕ} {f : Property} {ts rest : List Sign} → IsFormula n f ts rest → AreGoodSigns v ts → Shown v (Ready v f) (formula_levels f) n rest
  formula_shown v (conjunctions {n = m} {f} {fs} {us} {rest} d ds) g = let s = conjunction_shown v d g in one_formula v f fs m us rest s (conjunctions_shown v ds s.behind)
