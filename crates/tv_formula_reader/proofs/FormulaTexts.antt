-- What is read is a formula.
use Rattle.std.proofs.Common.{◌≡◌, ℕ, zero, suc, Bool, true, false, List, [], ◌∷◌, ◌++◌, map, inl, inr, Option, Some, None, refl, sym, ap, subst, ◌∙◌, append_assoc}
use Rattle.std.proofs.lemmas.List.{append-nil}
use Rattle.std.proofs.lemmas.Slice.Eq.{bytes_eq-Decides}
use Rattle.std.specs.Prelude.{codes}
use Rattle.std.specs.Str.{bytes_eq}
use Rattle.tv_language.specs.declared.token.TokenKind.{TokenKind}
use Rattle.tv_language.specs.declared.token.TokenKind.TheVariants as kinds
use Rattle.tv_program.specs.declared.tree.Relation.{Relation}
use Rattle.tv_program.specs.Words.{Word}
use Rattle.tv_language.specs.Symbols.{Symbol, label, fixed}
use Rattle.tv_language.specs.Sums.{IsSum}
use Rattle.tv_language.specs.Conditions.{relation_of}
use Rattle.tv_formula.specs.Properties.{Property, compare, at, all_of, some_of, fix}
use Rattle.tv_grammar.specs.Langs.{then, mapped, OfBranch, branch_text, branch_value, Turns, done, turn, turns_text, turns_value}
use Rattle.tv_reading.specs.Marks as marking
use Rattle.tv_reading.specs.Marks.{Mark, plain, refused, symbol_of}
use Rattle.tv_reading.specs.SumGrammar.{every, sum_at}
use Rattle.tv_reading.proofs.SumTexts.{sum_is}
use Rattle.tv_formula_reader.specs.declared.operators.Operator.{Operator}
use Rattle.tv_formula_reader.specs.declared.operators.Operator.TheVariants.{One, Two}
use Rattle.tv_formula.specs.declared.tree.Path.{Path}
use Rattle.tv_formula.specs.declared.tree.Shape.{Shape}
use Rattle.tv_formula_reader.specs.declared.operators.Single.{Single}
use Rattle.tv_formula_reader.specs.Operators.{operator_of, applied}
use Rattle.tv_formula_reader.specs.Signs.{Sign, symbols_of}
use Rattle.tv_formula_reader.specs.Seen.{Seen, marks}
use Rattle.tv_formula_reader.specs.Choice.{Grammar, Marked}
use Rattle.tv_formula_reader.specs.FormulaTexts as texts
use Rattle.tv_formula_reader.specs.FormulaTexts.{joined, IsPlain, always, never, ends, located, denied, bracketed, IsArgument, enclosed, IsLiteral, comparison, AreLiterals, no_literal, and, IsConjunction, literals, AreConjunctions, no_conjunction, or, IsFormula, conjunctions}
use Rattle.tv_formula_reader.specs.FormulaGrammar as grammar
use Rattle.tv_reading.specs.ConditionGrammar.{is_and, is_or}
use Rattle.tv_formula_reader.specs.FormulaGrammar.{at_kind, open_by, opened, close_by, closed, square_by, behind_square, summed, relation_by, related_by, label_cases, labelled, place, word_by, argument, operator_by, of_one, of_two, ground, level, plain_by, more_cases, conjunction_over, formula_over, plain_at, literal_at, formula_at}

-- ---- the signs of tokens

abbrev pub sign_of : Seen → Sign
sign_of t = record { symbol = symbol_of t.mark; label = symbol_of t.label; word = t.word }

abbrev pub signs_of : List Seen → List Sign
signs_of ts = map sign_of ts

pub signs-append : (a b : List Seen) → signs_of (a ++ b) ≡ signs_of a ++ signs_of b
signs-append [] b = refl
signs-append (t ∷ a) b = ap (λ (ss : List Sign). sign_of t ∷ ss) (signs-append a b)

pub symbols_same : (ts : List Seen) → symbols_of (signs_of ts) ≡ marking.symbols_of (marks ts)
symbols_same [] = refl
symbols_same (t ∷ ts) = ap (λ (ss : List Symbol). symbol_of t.mark ∷ ss) (symbols_same ts)

-- ---- tokens that stand alone

record Opening {X : Type 0} (l : Grammar X) (d : (opened l).Of) : Type 0 where
  it : l.Of
  symbol : symbol_of d.0.mark ≡ fixed kinds.LeftRound
  text : (r : List Seen) → (opened l).text d r ≡ d.0 ∷ l.text it r
  is : (opened l).value d ≡ l.value it

opening_of : {X : Type 0} (l : Grammar X) (d : (opened l).Of) → Opening l d
opening_of l d = by d.0.mark d.0.label d.0.word d.1
  where
    by : (m lb : Mark) (w : Word) (b : OfBranch (at_kind (open_by l) m)) → Opening l (record { mark = m; label = lb; word = w }, b)
    by (plain (fixed kinds.LeftRound)) lb w b = record { it = b; symbol = refl; text = λ r. refl; is = refl }
    by _ lb w b = absurd b

record Closing {X : Type 0} (x : X) (d : (closed x).Of) : Type 0 where
  symbol : symbol_of d.0.mark ≡ fixed kinds.RightRound
  text : (r : List Seen) → (closed x).text d r ≡ d.0 ∷ r
  is : (closed x).value d ≡ x

closing_of : {X : Type 0} (x : X) (d : (closed x).Of) → Closing x d
closing_of x d = by d.0.mark d.0.label d.0.word d.1
  where
    by : (m lb : Mark) (w : Word) (b : OfBranch (at_kind (close_by x) m)) → Closing x (record { mark = m; label = lb; word = w }, b)
    by (plain (fixed kinds.RightRound)) lb w b = record { symbol = refl; text = λ r. refl; is = refl }
    by _ lb w b = absurd b

record Squared {X : Type 0} (l : Grammar X) (d : (behind_square l).Of) : Type 0 where
  it : l.Of
  symbol : symbol_of d.0.mark ≡ fixed kinds.RightSquare
  text : (r : List Seen) → (behind_square l).text d r ≡ d.0 ∷ l.text it r
  is : (behind_square l).value d ≡ l.value it

squared_of : {X : Type 0} (l : Grammar X) (d : (behind_square l).Of) → Squared l d
squared_of l d = by d.0.mark d.0.label d.0.word d.1
  where
    by : (m lb : Mark) (w : Word) (b : OfBranch (at_kind (square_by l) m)) → Squared l (record { mark = m; label = lb; word = w }, b)
    by (plain (fixed kinds.RightSquare)) lb w b = record { it = b; symbol = refl; text = λ r. refl; is = refl }
    by _ lb w b = absurd b

-- ---- a comparison

sum_signs : (n : ℕ) (d : Marked (sum_at every n true)) → IsSum n ((sum_at every n true).value d.of) (symbols_of (signs_of d.tokens)) []
sum_signs n d = subst (λ (ss : List Symbol). IsSum n ((sum_at every n true).value d.of) ss []) (sym (symbols_same d.tokens ∙ ap marking.symbols_of d.same)) (sum_is n true d.of [])

compared_is : (n : ℕ) (a b : Marked (sum_at every n true)) (t : Seen) (kind : TokenKind) (r : Relation) → symbol_of t.mark ≡ fixed kind → relation_of kind ≡ Some r → (rest : List Seen) → IsLiteral n (compare r ((sum_at every n true).value a.of) ((sum_at every n true).value b.of)) (signs_of (a.tokens ++ (t ∷ (b.tokens ++ rest)))) (signs_of rest)
compared_is n a b t kind r e is rest =
    subst (λ (ss : List Sign). IsLiteral n (compare r ((sum_at every n true).value a.of) ((sum_at every n true).value b.of)) ss (signs_of rest))
    (sym (signs-append a.tokens (t ∷ (b.tokens ++ rest)) ∙ ap (λ (ss : List Sign). signs_of a.tokens ++ (sign_of t ∷ ss)) (signs-append b.tokens rest)))
    (comparison (signs_of a.tokens) (sign_of t) (signs_of b.tokens) (sum_signs n a) e is (sum_signs n b))

related_is : (n : ℕ) (a : Marked (sum_at every n true)) (m lb : Mark) (w : Word) (b : OfBranch (at_kind (related_by ((summed every n).value a) (summed every n)) m)) (rest : List Seen) → IsLiteral n (branch_value (at_kind (related_by ((summed every n).value a) (summed every n)) m) b) (signs_of (a.tokens ++ (record { mark = m; label = lb; word = w } ∷ branch_text (at_kind (related_by ((summed every n).value a) (summed every n)) m) b rest))) (signs_of rest)
related_is n a (plain (fixed kind)) lb w b rest = by (relation_of kind) refl b
  where
    by : (o : Option Relation) → relation_of kind ≡ o → (c : OfBranch (relation_by ((summed every n).value a) (summed every n) o)) → IsLiteral n (branch_value (relation_by ((summed every n).value a) (summed every n) o) c) (signs_of (a.tokens ++ (record { mark = plain (fixed kind); label = lb; word = w } ∷ branch_text (relation_by ((summed every n).value a) (summed every n) o) c rest))) (signs_of rest)
    by None e c = absurd c
    by (Some r) e c = compared_is n a c.0 (record { mark = plain (fixed kind); label = lb; word = w }) kind r refl e rest
related_is n a _ lb w b rest = absurd b

comparison_is : (n : ℕ) (d : (grammar.comparison every n).Of) (rest : List Seen) → IsLiteral n ((grammar.comparison every n).value d) (signs_of ((grammar.comparison every n).text d rest)) (signs_of rest)
comparison_is n d rest = related_is n d.0 d.1.0.mark d.1.0.label d.1.0.word d.1.1 rest

-- ---- plain formulas

abbrev AreFormula : ℕ → Grammar Property → Type 0
AreFormula n l = (d : l.Of) (rest : List Seen) → IsFormula n (l.value d) (signs_of (l.text d rest)) (signs_of rest)

abbrev ArePlain : ℕ → Grammar Property → Type 0
ArePlain n l = (d : l.Of) (rest : List Seen) → IsPlain n (l.value d) (signs_of (l.text d rest)) (signs_of rest)

-- after the bracket that opens
closing_is : (n : ℕ) (l : Grammar Property) → AreFormula n l → (d : (then l closed).Of) (rest : List Seen) (o : Sign) → o.symbol ≡ fixed kinds.LeftRound → IsArgument n ((then l closed).value d) (o ∷ signs_of ((then l closed).text d rest)) (signs_of rest)
closing_is n l h d rest o e =
    let c = closing_of (l.value d.0) d.1 in
    subst (λ (f : Property). IsArgument n f (o ∷ signs_of ((then l closed).text d rest)) (signs_of rest)) (sym c.is)
    (subst (λ (us : List Seen). IsArgument n (l.value d.0) (o ∷ signs_of (l.text d.0 us)) (signs_of rest)) (sym (c.text rest)) (enclosed e (h d.0 (d.1.0 ∷ rest)) c.symbol))

argument_is : (n : ℕ) (l : Grammar Property) → AreFormula n l → (d : (argument l).Of) (rest : List Seen) → IsArgument n ((argument l).value d) (signs_of ((argument l).text d rest)) (signs_of rest)
argument_is n l h d rest =
    let o = opening_of (then l closed) d in
    subst (λ (f : Property). IsArgument n f (signs_of ((argument l).text d rest)) (signs_of rest)) (sym o.is)
    (subst (λ (us : List Seen). IsArgument n ((then l closed).value o.it) (signs_of us) (signs_of rest)) (sym (o.text rest)) (closing_is n l h o.it rest (sign_of d.0) o.symbol))

one_is : (n : ℕ) (l : Grammar Property) → AreFormula n l → (p : Path) (k : Single) (s t : Sign) → s.symbol ≡ fixed kinds.LeftSquare → operator_of t.word ≡ Some (One p k) → (d : (of_one l p k).Of) (rest : List Seen) → IsPlain (suc n) ((of_one l p k).value d) (s ∷ t ∷ signs_of ((of_one l p k).text d rest)) (signs_of rest)
one_is n l h p k s t e is d rest =
    let q = squared_of (mapped (applied p k) (argument l)) d in
    subst (λ (f : Property). IsPlain (suc n) f (s ∷ t ∷ signs_of ((of_one l p k).text d rest)) (signs_of rest)) (sym q.is)
    (subst (λ (us : List Seen). IsPlain (suc n) (applied p k ((argument l).value q.it.0)) (s ∷ t ∷ signs_of us) (signs_of rest)) (sym (q.text rest)) (texts.of_one e is q.symbol (argument_is n l h q.it.0 rest)))

two_is : (n : ℕ) (l : Grammar Property) → AreFormula n l → (p : Path) (k : Shape) (s t : Sign) → s.symbol ≡ fixed kinds.LeftSquare → operator_of t.word ≡ Some (Two p k) → (d : (of_two l p k).Of) (rest : List Seen) → IsPlain (suc n) ((of_two l p k).value d) (s ∷ t ∷ signs_of ((of_two l p k).text d rest)) (signs_of rest)
two_is n l h p k s t e is d rest =
    let q = squared_of (then (argument l) (λ f. mapped (fix p k f) (argument l))) d in
    subst (λ (f : Property). IsPlain (suc n) f (s ∷ t ∷ signs_of ((of_two l p k).text d rest)) (signs_of rest)) (sym q.is)
    (subst (λ (us : List Seen). IsPlain (suc n) (fix p k ((argument l).value q.it.0) ((argument l).value q.it.1.0)) (s ∷ t ∷ signs_of us) (signs_of rest)) (sym (q.text rest))
    (texts.of_two e is q.symbol (argument_is n l h q.it.0 ((argument l).text q.it.1.0 rest)) (argument_is n l h q.it.1.0 rest)))

operator_is : (n : ℕ) (l : Grammar Property) → AreFormula n l → (s t : Sign) → s.symbol ≡ fixed kinds.LeftSquare → (o : Option Operator) → operator_of t.word ≡ o → (d : OfBranch (operator_by l o)) (rest : List Seen) → IsPlain (suc n) (branch_value (operator_by l o) d) (s ∷ t ∷ signs_of (branch_text (operator_by l o) d rest)) (signs_of rest)
operator_is n l h s t e None is d rest = absurd d
operator_is n l h s t e (Some (One p k)) is d rest = one_is n l h p k s t e is d rest
operator_is n l h s t e (Some (Two p k)) is d rest = two_is n l h p k s t e is d rest

label_is : (n : ℕ) (a o : Sign) → a.symbol ≡ fixed kinds.Name → a.word ≡ codes "at" → o.symbol ≡ fixed kinds.LeftRound → (m lb : Mark) (w : Word) (d : OfBranch (label_cases every lb)) (rest : List Seen) → IsPlain n (branch_value (label_cases every lb) d) (a ∷ o ∷ sign_of (record { mark = m; label = lb; word = w }) ∷ signs_of (branch_text (label_cases every lb) d rest)) (signs_of rest)
label_is n a o e is f m (plain (label l)) w d rest =
    let c = closing_of (at l) d in
    subst (λ (g : Property). IsPlain n g (a ∷ o ∷ sign_of (record { mark = m; label = plain (label l); word = w }) ∷ signs_of ((closed (at l)).text d rest)) (signs_of rest)) (sym c.is)
    (subst (λ (us : List Seen). IsPlain n (at l) (a ∷ o ∷ sign_of (record { mark = m; label = plain (label l); word = w }) ∷ signs_of us) (signs_of rest)) (sym (c.text rest)) (located e is f refl c.symbol))
label_is n a o e is f m (plain (fixed kinds.Wide)) w d rest = absurd d
label_is n a o e is f m (refused k kinds.Name) w d rest = absurd d
label_is n a o e is f m _ w d rest = absurd d

word_is : (n : ℕ) (a : Sign) → a.symbol ≡ fixed kinds.Name → (b c : Bool) → bytes_eq a.word (codes "at") ≡ b → bytes_eq a.word (codes "term") ≡ c → (d : OfBranch (word_by every b c)) (rest : List Seen) → IsPlain n (branch_value (word_by every b c) d) (a ∷ signs_of (branch_text (word_by every b c) d rest)) (signs_of rest)
word_is n a e true c is not d rest =
    let o = opening_of (labelled every) d in
    subst (λ (g : Property). IsPlain n g (a ∷ signs_of ((place every).text d rest)) (signs_of rest)) (sym o.is)
    (subst (λ (us : List Seen). IsPlain n ((labelled every).value o.it) (a ∷ signs_of us) (signs_of rest)) (sym (o.text rest))
    (label_is n a (sign_of d.0) e ((bytes_eq-Decides a.word (codes "at")).0 is) o.symbol o.it.0.mark o.it.0.label o.it.0.word o.it.1 rest))
word_is n a e false true not is d rest = ends e ((bytes_eq-Decides a.word (codes "term")).0 is)
word_is n a e false false not is d rest = absurd d

zero_is : (m lb : Mark) (w : Word) (d : OfBranch (at_kind (plain_by every ground w) m)) (rest : List Seen) → IsPlain 0 (branch_value (at_kind (plain_by every ground w) m) d) (sign_of (record { mark = m; label = lb; word = w }) ∷ signs_of (branch_text (at_kind (plain_by every ground w) m) d rest)) (signs_of rest)
zero_is (plain (fixed kinds.True)) lb w d rest = always refl
zero_is (plain (fixed kinds.False)) lb w d rest = never refl
zero_is (plain (fixed kinds.Name)) lb w d rest = word_is 0 (sign_of (record { mark = plain (fixed kinds.Name); label = lb; word = w })) refl (bytes_eq w (codes "at")) (bytes_eq w (codes "term")) refl refl d rest
zero_is _ lb w d rest = absurd d

suc_is : (n : ℕ) (l p : Grammar Property) → AreFormula n l → ArePlain n p → (m lb : Mark) (w : Word) (d : OfBranch (at_kind (plain_by every (level l p) w) m)) (rest : List Seen) → IsPlain (suc n) (branch_value (at_kind (plain_by every (level l p) w) m) d) (sign_of (record { mark = m; label = lb; word = w }) ∷ signs_of (branch_text (at_kind (plain_by every (level l p) w) m) d rest)) (signs_of rest)
suc_is n l p h i (plain (fixed kinds.True)) lb w d rest = always refl
suc_is n l p h i (plain (fixed kinds.False)) lb w d rest = never refl
suc_is n l p h i (plain (fixed kinds.Name)) lb w d rest = word_is (suc n) (sign_of (record { mark = plain (fixed kinds.Name); label = lb; word = w })) refl (bytes_eq w (codes "at")) (bytes_eq w (codes "term")) refl refl d rest
suc_is n l p h i (plain (fixed kinds.Not)) lb w d rest = denied refl (i d.0 rest)
suc_is n l p h i (plain (fixed kinds.LeftRound)) lb w d rest = bracketed (closing_is n l h d rest (sign_of (record { mark = plain (fixed kinds.LeftRound); label = lb; word = w })) refl)
suc_is n l p h i (plain (fixed kinds.LeftSquare)) lb w d rest = operator_is n l h (sign_of (record { mark = plain (fixed kinds.LeftSquare); label = lb; word = w })) (sign_of d.0) refl (operator_of d.0.word) refl d.1 rest
suc_is n l p h i _ lb w d rest = absurd d

-- ---- joined by "&&" or "||"

abbrev AreLiteral : ℕ → Grammar Property → Type 0
AreLiteral n lit = (d : lit.Of) (rest : List Seen) → IsLiteral n (lit.value d) (signs_of (lit.text d rest)) (signs_of rest)

abbrev AreConjunction : ℕ → Grammar Property → Type 0
AreConjunction n con = (d : con.Of) (rest : List Seen) → IsConjunction n (con.value d) (signs_of (con.text d rest)) (signs_of rest)

record Anded (n : ℕ) (fs all : List Property) (ts rest : List Sign) : Type 0 where
  more : List Property
  are : AreLiterals n more ts rest
  joins : all ≡ fs ++ more

one_and : (n : ℕ) (lit : Grammar Property) → AreLiteral n lit → (fs : List Property) (m lb : Mark) (w : Word) (d : OfBranch (more_cases is_and lit fs (record { mark = m; label = lb; word = w }))) (all : List Property) (us rest : List Seen) → Anded n (branch_value (more_cases is_and lit fs (record { mark = m; label = lb; word = w })) d) all (signs_of us) (signs_of rest) → Anded n fs all (sign_of (record { mark = m; label = lb; word = w }) ∷ signs_of (branch_text (more_cases is_and lit fs (record { mark = m; label = lb; word = w })) d us)) (signs_of rest)
one_and n lit h fs (plain (fixed kinds.And)) lb w d all us rest v = record { more = lit.value d.0 ∷ v.more; are = and refl (h d.0 us) v.are; joins = v.joins ∙ append_assoc fs (lit.value d.0 ∷ []) v.more }
one_and n lit h fs (plain (fixed kind)) lb w d all us rest v = absurd d
one_and n lit h fs _ lb w d all us rest v = absurd d

ands_are : (n : ℕ) (lit : Grammar Property) → AreLiteral n lit → (fs : List Property) (d : Turns (more_cases is_and lit) fs) (rest : List Seen) → Anded n fs (turns_value (more_cases is_and lit) fs d) (signs_of (turns_text (more_cases is_and lit) fs d rest)) (signs_of rest)
ands_are n lit h fs done rest = record { more = []; are = no_literal; joins = sym (append-nil fs) }
ands_are n lit h fs (turn t d ds) rest =
    one_and n lit h fs t.mark t.label t.word d (turns_value (more_cases is_and lit) (branch_value (more_cases is_and lit fs t) d) ds) (turns_text (more_cases is_and lit) (branch_value (more_cases is_and lit fs t) d) ds rest) rest (ands_are n lit h (branch_value (more_cases is_and lit fs t) d) ds rest)

record Ored (n : ℕ) (fs all : List Property) (ts rest : List Sign) : Type 0 where
  more : List Property
  are : AreConjunctions n more ts rest
  joins : all ≡ fs ++ more

one_or : (n : ℕ) (con : Grammar Property) → AreConjunction n con → (fs : List Property) (m lb : Mark) (w : Word) (d : OfBranch (more_cases is_or con fs (record { mark = m; label = lb; word = w }))) (all : List Property) (us rest : List Seen) → Ored n (branch_value (more_cases is_or con fs (record { mark = m; label = lb; word = w })) d) all (signs_of us) (signs_of rest) → Ored n fs all (sign_of (record { mark = m; label = lb; word = w }) ∷ signs_of (branch_text (more_cases is_or con fs (record { mark = m; label = lb; word = w })) d us)) (signs_of rest)
one_or n con h fs (plain (fixed kinds.Or)) lb w d all us rest v = record { more = con.value d.0 ∷ v.more; are = or refl (h d.0 us) v.are; joins = v.joins ∙ append_assoc fs (con.value d.0 ∷ []) v.more }
one_or n con h fs (plain (fixed kind)) lb w d all us rest v = absurd d
one_or n con h fs _ lb w d all us rest v = absurd d

ors_are : (n : ℕ) (con : Grammar Property) → AreConjunction n con → (fs : List Property) (d : Turns (more_cases is_or con) fs) (rest : List Seen) → Ored n fs (turns_value (more_cases is_or con) fs d) (signs_of (turns_text (more_cases is_or con) fs d rest)) (signs_of rest)
ors_are n con h fs done rest = record { more = []; are = no_conjunction; joins = sym (append-nil fs) }
ors_are n con h fs (turn t d ds) rest =
    one_or n con h fs t.mark t.label t.word d (turns_value (more_cases is_or con) (branch_value (more_cases is_or con fs t) d) ds) (turns_text (more_cases is_or con) (branch_value (more_cases is_or con fs t) d) ds rest) rest (ors_are n con h (branch_value (more_cases is_or con fs t) d) ds rest)

conjunction_is : (n : ℕ) (lit : Grammar Property) → AreLiteral n lit → AreConjunction n (conjunction_over lit)
conjunction_is n lit h d rest =
    let w = ands_are n lit h (lit.value d.0 ∷ []) d.1.0 rest in
    subst (λ (fs : List Property). IsConjunction n (joined all_of fs) (signs_of ((conjunction_over lit).text d rest)) (signs_of rest)) (sym w.joins) (literals (h d.0 (turns_text (more_cases is_and lit) (lit.value d.0 ∷ []) d.1.0 rest)) w.are)

formula_is_over : (n : ℕ) (lit : Grammar Property) → AreLiteral n lit → AreFormula n (formula_over lit)
formula_is_over n lit h d rest =
    let con : Grammar Property = conjunction_over lit in
    let w = ors_are n con (conjunction_is n lit h) (con.value d.0 ∷ []) d.1.0 rest in
    subst (λ (fs : List Property). IsFormula n (joined some_of fs) (signs_of ((formula_over lit).text d rest)) (signs_of rest)) (sym w.joins) (conjunctions (conjunction_is n lit h d.0 (turns_text (more_cases is_or con) (con.value d.0 ∷ []) d.1.0 rest)) w.are)

-- ---- by levels

literal_is : (n : ℕ) → ArePlain n (plain_at every n) → AreLiteral n (literal_at every n)
literal_is n h (inl d) rest = comparison_is n d rest
literal_is n h (inr d) rest = texts.plain (h d rest)

plains_are : (n : ℕ) → ArePlain n (plain_at every n)
unfolding plain_at
plains_are zero d rest = zero_is d.0.mark d.0.label d.0.word d.1 rest
plains_are (suc n) d rest =
    let h = plains_are n in
    suc_is n (formula_at every n) (plain_at every n) (formula_is_over n (literal_at every n) (literal_is n h)) h d.0.mark d.0.label d.0.word d.1 rest

pub formula_is : (n : ℕ) (d : (formula_at every n).Of) (rest : List Seen) → IsFormula n ((formula_at every n).value d) (signs_of ((formula_at every n).text d rest)) (signs_of rest)
formula_is n d rest = formula_is_over n (literal_at every n) (literal_is n (plains_are n)) d rest
