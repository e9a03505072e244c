-- A formula within 64 levels whose names are those of a program keeps its limits.
use Rattle.std.proofs.Common.{◌≡◌, ℕ, ◌+◌, ◌*◌, ◌^◌, ◌≤◌, cond, Bool, true, false, List, [], ◌∷◌, ◌++◌, length, Option, Some, None, refl, sym, subst, arith}
use Rattle.std.proofs.lemmas.Bool.Decides.{nat_tests}
use Rattle.std.proofs.lemmas.List.Quantifiers.{position-Some}
use Rattle.std.specs.Prelude.{◌&&◌, nat_lt, nat_le}
use Rattle.std.specs.Str.{bytes_eq}
use Rattle.tv_language.specs.declared.token.TokenKind.{TokenKind}
use Rattle.tv_language.specs.declared.token.TokenKind.TheVariants as kinds
use Rattle.tv_language.specs.declared.token.Token.{Token}
use Rattle.tv_language.specs.Numbers.{value_of_digits}
use Rattle.tv_program.specs.Words.{Word, number_of}
use Rattle.tv_program.specs.Trees.{Expression}
use Rattle.tv_program.specs.Limits.{expression_depth}
use Rattle.tv_language.specs.Symbols.{Symbol, number, label, fixed, lexeme, Vocabulary}
use Rattle.tv_language.specs.Sums.{IsSum}
use Rattle.tv_formula.specs.Properties.{Property, all_of, some_of}
use Rattle.tv_formula.specs.Views.{properties_of}
use Rattle.tv_formula.specs.Limits.{part_fits, property_fits, properties_fit, operators, most_operators, nots, most_nots, IsFormula}
use Rattle.tv_formula.specs.declared.tree.Path.{Path}
use Rattle.tv_formula_reader.specs.declared.operators.Single.{Single}
use Rattle.tv_formula_reader.specs.declared.operators.Single.TheVariants.{Successor, Finally, Globally}
use Rattle.tv_formula_reader.specs.Operators.{applied}
use Rattle.tv_formula_reader.specs.Signs.{Sign, symbols_of}
use Rattle.tv_formula_reader.specs.Seen.{known_label, label_by, seen_all}
use Rattle.tv_formula_reader.specs.FormulaTexts as texts
use Rattle.tv_formula_reader.specs.FormulaTexts.{joined, IsPlain, always, never, ends, located, denied, bracketed, of_one, of_two, IsArgument, enclosed, IsLiteral, comparison, AreLiterals, no_literal, and, IsConjunction, literals, AreConjunctions, no_conjunction, or, conjunctions}
use Rattle.tv_reading.specs.Marks.{plain, symbol_of, known_name, mark_by, is_formula_word}
use Rattle.tv_reading.proofs.FitLemmas.{symbol_fits, all_fit, sum_fits, sum_shallow}
use Rattle.tv_formula_reader.proofs.FormulaTexts.{signs_of}
use Rattle.std.proofs.lemmas.Bool.{and_from, and_parts}

-- ---- how many operators and negations lie on a path

all_operators : (fs : List Property) (b : ℕ) → most_operators (properties_of fs) ≤ b → operators (joined all_of fs) ≤ b + 1
all_operators [] b h = omega arith
all_operators (f ∷ []) b h = omega arith
all_operators (f ∷ g ∷ fs) b h = omega arith

some_operators : (fs : List Property) (b : ℕ) → most_operators (properties_of fs) ≤ b → operators (joined some_of fs) ≤ b + 1
some_operators [] b h = omega arith
some_operators (f ∷ []) b h = omega arith
some_operators (f ∷ g ∷ fs) b h = omega arith

all_nots : (fs : List Property) (b : ℕ) → most_nots (properties_of fs) ≤ b → nots (joined all_of fs) ≤ b
all_nots [] b h = omega arith
all_nots (f ∷ []) b h = omega arith
all_nots (f ∷ g ∷ fs) b h = omega arith

some_nots : (fs : List Property) (b : ℕ) → most_nots (properties_of fs) ≤ b → nots (joined some_of fs) ≤ b
some_nots [] b h = omega arith
some_nots (f ∷ []) b h = omega arith
some_nots (f ∷ g ∷ fs) b h = omega arith

applied_operators : (p : Path) (k : Single) (f : Property) (b : ℕ) → operators f ≤ b → operators (applied p k f) ≤ b + 1
applied_operators p Successor f b h = omega arith
applied_operators p Finally f b h = omega arith
applied_operators p Globally f b h = omega arith

applied_nots : (p : Path) (k : Single) (f : Property) (b : ℕ) → nots f ≤ b → nots (applied p k f) ≤ b
applied_nots p Successor f b h = omega arith
applied_nots p Finally f b h = omega arith
applied_nots p Globally f b h = omega arith

mutual
  plain_operators : {n : ℕ} {f : Property} {ts rest : List Sign} → IsPlain n f ts rest → operators f ≤ 3 * n
  plain_operators (always e) = omega arith
  plain_operators (never e) = omega arith
  plain_operators (ends e w) = omega arith
  plain_operators (located a b c d e) = omega arith
  plain_operators (denied {n} e p) = let h = plain_operators p in omega arith
  plain_operators (bracketed {n} a) = let h = argument_operators a in omega arith
  plain_operators (of_one {n} {p = p} {k = k} {f = f} a b c d) = let h = applied_operators p k f (3 * n + 2) (argument_operators d) in omega arith
  plain_operators (of_two {n} a b c d e) = let h = argument_operators d in let i = argument_operators e in omega arith

  argument_operators : {n : ℕ} {f : Property} {ts rest : List Sign} → IsArgument n f ts rest → operators f ≤ 3 * n + 2
  argument_operators (enclosed a h c) = formula_operators h

  literal_operators : {n : ℕ} {f : Property} {ts rest : List Sign} → IsLiteral n f ts rest → operators f ≤ 3 * n
  literal_operators (texts.plain p) = plain_operators p
  literal_operators (comparison l t r a b c d) = omega arith

  literals_operators : {n : ℕ} {fs : List Property} {ts rest : List Sign} → AreLiterals n fs ts rest → most_operators (properties_of fs) ≤ 3 * n
  literals_operators no_literal = omega arith
  literals_operators (and a p ps) = let h = literal_operators p in let i = literals_operators ps in omega arith

  conjunction_operators : {n : ℕ} {f : Property} {ts rest : List Sign} → IsConjunction n f ts rest → operators f ≤ 3 * n + 1
  conjunction_operators (literals {n} {f} {fs} p ps) = let h = literal_operators p in let i = literals_operators ps in all_operators (f ∷ fs) (3 * n) (omega arith)

  conjunctions_operators : {n : ℕ} {fs : List Property} {ts rest : List Sign} → AreConjunctions n fs ts rest → most_operators (properties_of fs) ≤ 3 * n + 1
  conjunctions_operators no_conjunction = omega arith
  conjunctions_operators (or a p ps) = let h = conjunction_operators p in let i = conjunctions_operators ps in omega arith

  formula_operators : {n : ℕ} {f : Property} {ts rest : List Sign} → texts.IsFormula n f ts rest → operators f ≤ 3 * n + 2
  formula_operators (conjunctions {n} {f} {fs} p ps) = let h = conjunction_operators p in let i = conjunctions_operators ps in let j = some_operators (f ∷ fs) (3 * n + 1) (omega arith) in omega arith

mutual
  plain_nots : {n : ℕ} {f : Property} {ts rest : List Sign} → IsPlain n f ts rest → nots f ≤ n
  plain_nots (always e) = omega arith
  plain_nots (never e) = omega arith
  plain_nots (ends e w) = omega arith
  plain_nots (located a b c d e) = omega arith
  plain_nots (denied e p) = let h = plain_nots p in omega arith
  plain_nots (bracketed a) = let h = argument_nots a in omega arith
  plain_nots (of_one {n} {p = p} {k = k} {f = f} a b c d) = let h = applied_nots p k f n (argument_nots d) in omega arith
  plain_nots (of_two a b c d e) = let h = argument_nots d in let i = argument_nots e in omega arith

  argument_nots : {n : ℕ} {f : Property} {ts rest : List Sign} → IsArgument n f ts rest → nots f ≤ n
  argument_nots (enclosed a h c) = formula_nots h

  literal_nots : {n : ℕ} {f : Property} {ts rest : List Sign} → IsLiteral n f ts rest → nots f ≤ n
  literal_nots (texts.plain p) = plain_nots p
  literal_nots (comparison l t r a b c d) = omega arith

  literals_nots : {n : ℕ} {fs : List Property} {ts rest : List Sign} → AreLiterals n fs ts rest → most_nots (properties_of fs) ≤ n
  literals_nots no_literal = omega arith
  literals_nots (and a p ps) = let h = literal_nots p in let i = literals_nots ps in omega arith

  conjunction_nots : {n : ℕ} {f : Property} {ts rest : List Sign} → IsConjunction n f ts rest → nots f ≤ n
  conjunction_nots (literals {n} {f} {fs} p ps) = let h = literal_nots p in let i = literals_nots ps in all_nots (f ∷ fs) n (omega arith)

  conjunctions_nots : {n : ℕ} {fs : List Property} {ts rest : List Sign} → AreConjunctions n fs ts rest → most_nots (properties_of fs) ≤ n
  conjunctions_nots no_conjunction = omega arith
  conjunctions_nots (or a p ps) = let h = conjunction_nots p in let i = conjunctions_nots ps in omega arith

  formula_nots : {n : ℕ} {f : Property} {ts rest : List Sign} → texts.IsFormula n f ts rest → nots f ≤ n
  formula_nots (conjunctions {n} {f} {fs} p ps) = let h = conjunction_nots p in let i = conjunctions_nots ps in some_nots (f ∷ fs) n (omega arith)

-- ---- variables and locations

abbrev label_fits : ℕ → Symbol → Bool
label_fits locations (label l) = nat_lt l locations
label_fits locations s = true

abbrev sign_fits : ℕ → ℕ → Sign → Bool
sign_fits variables locations t = symbol_fits variables 0 t.symbol && label_fits locations t.label

abbrev signs_fit : ℕ → ℕ → List Sign → Bool
signs_fit variables locations [] = true
signs_fit variables locations (t ∷ ts) = sign_fits variables locations t && signs_fit variables locations ts

module _ (v l : ℕ) where
  in_front : (a b : List Sign) → signs_fit v l (a ++ b) ≡ true → signs_fit v l a ≡ true
  in_front [] b h = refl
  in_front (t ∷ a) b h = and_from _ _ ((and_parts _ _ h).0) (in_front a b ((and_parts (sign_fits v l t) _ h).1))

  behind : (a b : List Sign) → signs_fit v l (a ++ b) ≡ true → signs_fit v l b ≡ true
  behind [] b h = h
  behind (t ∷ a) b h = behind a b ((and_parts (sign_fits v l t) _ h).1)

  symbols_fit : (ts : List Sign) → signs_fit v l ts ≡ true → all_fit v 0 (symbols_of ts) ≡ true
  symbols_fit [] h = refl
  symbols_fit (t ∷ ts) h = and_from _ _ ((and_parts _ _ ((and_parts _ _ h).0)).0) (symbols_fit ts ((and_parts (sign_fits v l t) _ h).1))

  tail : (t : Sign) (ts : List Sign) → signs_fit v l (t ∷ ts) ≡ true → signs_fit v l ts ≡ true
  tail t ts h = (and_parts (sign_fits v l t) _ h).1

  all_fit_of : (fs : List Property) → properties_fit v l (properties_of fs) ≡ true → property_fits v l (joined all_of fs) ≡ true
  all_fit_of [] h = refl
  all_fit_of (f ∷ []) h = (and_parts _ _ h).0
  all_fit_of (f ∷ g ∷ fs) h = h

  some_fit_of : (fs : List Property) → properties_fit v l (properties_of fs) ≡ true → property_fits v l (joined some_of fs) ≡ true
  some_fit_of [] h = refl
  some_fit_of (f ∷ []) h = (and_parts _ _ h).0
  some_fit_of (f ∷ g ∷ fs) h = h

  applied_fits : (p : Path) (k : Single) (f : Property) → property_fits v l f ≡ true → property_fits v l (applied p k f) ≡ true
  applied_fits p Successor f h = h
  applied_fits p Finally f h = h
  applied_fits p Globally f h = and_from _ _ h refl

  shallow : (m : ℕ) → m ≤ 400 → nat_le m 400 ≡ true
  shallow m h = grind (arith, nat_tests)

  part_fit : (n : ℕ) (e : Expression) (ts : List Sign) → n ≤ 64 → IsSum n e (symbols_of ts) [] → signs_fit v l ts ≡ true → part_fits v e ≡ true
  part_fit n e ts m s h = and_from _ _ (sum_fits v 0 s (symbols_fit ts h)).0 (shallow (expression_depth e) (let d = sum_shallow s in omega arith))

  label_at : (k : ℕ) (s : Symbol) → s ≡ label k → label_fits l s ≡ true → nat_lt k l ≡ true
  label_at k s e h = subst (λ (x : Symbol). label_fits l x ≡ true) e h

  abbrev Fit : Property → List Sign → Type 0
  Fit f rest = (property_fits v l f ≡ true) × (signs_fit v l rest ≡ true)

  mutual
    plain_fit : {n : ℕ} {f : Property} {ts rest : List Sign} → IsPlain n f ts rest → n ≤ 64 → signs_fit v l ts ≡ true → Fit f rest
    plain_fit (always {t = t} {rest = rest} e) m h = (refl, tail t rest h)
    plain_fit (never {t = t} {rest = rest} e) m h = (refl, tail t rest h)
    plain_fit (ends {t = t} {rest = rest} e w) m h = (refl, tail t rest h)
    plain_fit (located {l = k} {a = a} {o = o} {t = t} {c = c} {rest = rest} x y z is w) m h =
        let i = tail o (t ∷ c ∷ rest) (tail a (o ∷ t ∷ c ∷ rest) h) in
        (label_at k t.label is ((and_parts (symbol_fits v 0 t.symbol) _ ((and_parts _ _ i).0)).1), tail c rest (tail t (c ∷ rest) i))
    plain_fit (denied {t = t} {ts = ts} e p) m h = plain_fit p (omega arith) (tail t ts h)
    plain_fit (bracketed a) m h = argument_fit a (omega arith) h
    plain_fit (of_one {o = o} {t = t} {c = c} {p = p} {k = k} {f = f} {ts = ts} x y z a) m h =
        let i = argument_fit a (omega arith) (tail c ts (tail t (c ∷ ts) (tail o (t ∷ c ∷ ts) h))) in
        (applied_fits p k f i.0, i.1)
    plain_fit (of_two {o = o} {t = t} {c = c} {ts = ts} x y z a b) m h =
        let i = argument_fit a (omega arith) (tail c ts (tail t (c ∷ ts) (tail o (t ∷ c ∷ ts) h))) in
        let j = argument_fit b (omega arith) i.1 in
        (and_from _ _ i.0 j.0, j.1)

    argument_fit : {n : ℕ} {f : Property} {ts rest : List Sign} → IsArgument n f ts rest → n ≤ 64 → signs_fit v l ts ≡ true → Fit f rest
    argument_fit (enclosed {o = o} {c = c} {ts = ts} {rest = rest} a p b) m h = let i = formula_fit p m (tail o ts h) in (i.0, tail c rest i.1)

    literal_fit : {n : ℕ} {f : Property} {ts rest : List Sign} → IsLiteral n f ts rest → n ≤ 64 → signs_fit v l ts ≡ true → Fit f rest
    literal_fit (texts.plain p) m h = plain_fit p m h
    literal_fit (comparison {n} {a} {b} {rest = rest} left t right p is r q) m h =
        let i = tail t (right ++ rest) (behind left (t ∷ (right ++ rest)) h) in
        (and_from _ _ (part_fit n a left m p (in_front left (t ∷ (right ++ rest)) h)) (part_fit n b right m q (in_front right rest i)), behind right rest i)

    literals_fit : {n : ℕ} {fs : List Property} {ts rest : List Sign} → AreLiterals n fs ts rest → n ≤ 64 → signs_fit v l ts ≡ true → (properties_fit v l (properties_of fs) ≡ true) × (signs_fit v l rest ≡ true)
    literals_fit no_literal m h = (refl, h)
    literals_fit (and {t = t} {ts = ts} e p ps) m h = let i = literal_fit p m (tail t ts h) in let j = literals_fit ps m i.1 in (and_from _ _ i.0 j.0, j.1)

    conjunction_fit : {n : ℕ} {f : Property} {ts rest : List Sign} → IsConjunction n f ts rest → n ≤ 64 → signs_fit v l ts ≡ true → Fit f rest
    conjunction_fit (literals {f = f} {fs = fs} p ps) m h = let i = literal_fit p m h in let j = literals_fit ps m i.1 in (all_fit_of (f ∷ fs) (and_from _ _ i.0 j.0), j.1)

    conjunctions_fit : {n : ℕ} {fs : List Property} {ts rest : List Sign} → AreConjunctions n fs ts rest → n ≤ 64 → signs_fit v l ts ≡ true → (properties_fit v l (properties_of fs) ≡ true) × (signs_fit v l rest ≡ true)
    conjunctions_fit no_conjunction m h = (refl, h)
    conjunctions_fit (or {t = t} {ts = ts} e p ps) m h = let i = conjunction_fit p m (tail t ts h) in let j = conjunctions_fit ps m i.1 in (and_from _ _ i.0 j.0, j.1)

    formula_fit : {n : ℕ} {f : Property} {ts rest : List Sign} → texts.IsFormula n f ts rest → n ≤ 64 → signs_fit v l ts ≡ true → Fit f rest
    formula_fit (conjunctions {f = f} {fs = fs} p ps) m h = let i = conjunction_fit p m h in let j = conjunctions_fit ps m i.1 in (some_fit_of (f ∷ fs) (and_from _ _ i.0 j.0), j.1)

-- ---- the signs of a text

number_within : (o : Option ℕ) (w : Word) (labels : List Word) → o ≡ number_of w labels → (b : Bool) → label_fits (length labels) (symbol_of (known_label b o)) ≡ true
number_within o w labels e true = refl
number_within None w labels e false = refl
number_within (Some k) w labels e false = let h = (position-Some (bytes_eq w) labels k [] (sym e)).0 in grind (arith, nat_tests)

labels_fit : (labels : List Word) (kind : TokenKind) (w : Word) → label_fits (length labels) (symbol_of (label_by labels kind w)) ≡ true
labels_fit labels kinds.Name w = number_within (number_of w labels) w labels refl (is_formula_word w)
labels_fit labels kinds.Number w = number_within (number_of w labels) w labels refl false
labels_fit labels kind w = refl

known_fits : (o : Option ℕ) (w : Word) (names : List Word) → o ≡ number_of w names → (b : Bool) → symbol_fits (length names) 0 (symbol_of (known_name b o)) ≡ true
known_fits o w names e true = refl
known_fits None w names e false = refl
known_fits (Some k) w names e false = let h = (position-Some (bytes_eq w) names k [] (sym e)).0 in grind (arith, nat_tests)

number_fits : (n v : ℕ) (b : Bool) → nat_lt n (2 ^ 62) ≡ b → symbol_fits v 0 (symbol_of (cond b (plain (number n)) (plain (fixed kinds.Wide)))) ≡ true
number_fits n v true e = e
number_fits n v false e = refl

mark_fits : (names : List Word) (kind : TokenKind) (w : Word) → symbol_fits (length names) 0 (symbol_of (mark_by false names 0 kind w)) ≡ true
mark_fits names kinds.Name w = known_fits (number_of w names) w names refl (is_formula_word w)
mark_fits names kinds.Number w = number_fits (value_of_digits w) (length names) (nat_lt (value_of_digits w) (2 ^ 62)) refl
mark_fits names kind w = refl

seen_fit : (v : Vocabulary) (text : List ℕ) (ts : List Token) → signs_fit (length v.variables) (length v.labels) (signs_of (seen_all v text ts)) ≡ true
seen_fit v text [] = refl
seen_fit v text (t ∷ ts) = and_from _ _ (and_from _ _ (mark_fits v.variables t.kind (lexeme text t).word) (labels_fit v.labels t.kind (lexeme text t).word)) (seen_fit v text ts)

bounded : (n m : ℕ) → n ≤ m → nat_le n m ≡ true
bounded n m h = grind (arith, nat_tests)

pub formula_limits : (v : Vocabulary) (text : List ℕ) (ts : List Token) (f : Property) (rest : List Sign) → texts.IsFormula 64 f (signs_of (seen_all v text ts)) rest → IsFormula (length v.variables) (length v.labels) f
formula_limits v text ts f rest h = record {
  fits = (formula_fit (length v.variables) (length v.labels) h (omega arith) (seen_fit v text ts)).0;
  few_operators = bounded (operators f) 200 (let o = formula_operators h in omega arith);
  few_nots = bounded (nots f) 64 (formula_nots h);
}
