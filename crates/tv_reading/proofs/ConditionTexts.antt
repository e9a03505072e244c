-- What is read as a condition is one, and each condition is read.
use Rattle.std.proofs.Common.{◌≡◌, ℕ, zero, suc, true, List, [], ◌∷◌, ◌++◌, Option, Some, None, refl, sym, subst, ◌∙◌, append_assoc}
use Rattle.std.proofs.lemmas.List.{append-nil}
use Rattle.tv_language.specs.declared.token.TokenKind.{TokenKind}
use Rattle.tv_language.specs.declared.token.TokenKind.TheVariants as kinds
use Rattle.tv_program.specs.declared.tree.Relation.{Relation}
use Rattle.tv_program.specs.Trees as trees
use Rattle.tv_program.specs.Trees.{Expression, Condition, compare, all_of, some_of}
use Rattle.tv_program.specs.Views.{parts_of}
use Rattle.tv_program.specs.Limits.{is_linear_product}
use Rattle.tv_language.specs.Symbols.{Symbol, fixed}
use Rattle.tv_language.specs.Sums.{gathered, IsFactor, bracketed, IsProduct, factors, IsSum, products}
use Rattle.tv_language.specs.Conditions as conditions
use Rattle.tv_language.specs.Conditions.{relation_of, joined, IsPlain, always, never, denied, IsLiteral, comparison, AreLiterals, no_literal, and, IsConjunction, literals, AreConjunctions, no_conjunction, or, IsCondition, conjunctions}
use Rattle.tv_grammar.specs.Langs.{then, stop, go, Is, the, OfBranch, branch_text, branch_value, Turns, done, turn, turns_text, turns_value}
use Rattle.tv_reading.specs.Marks.{Mark, plain, symbols_of}
use Rattle.tv_reading.specs.SumGrammar.{Grammar, Behind, every, close_cases, closed, factor_cases, below, star_cases, sum_cases, factor_at, product_at, sum_at}
use Rattle.tv_reading.specs.ConditionGrammar.{Thing, value, tested, relation_by, compared, relation_cases, tail, opened, as_test, literal_over, is_and, is_or, more_cases, conjunction_over, condition_over, continued, after_factor, ground, level, plain_cases, thing_cases, thing_at, plain_at, literal_at, condition_at}
use Rattle.tv_reading.proofs.SumTexts.{closed_text, closed_value, stars_are, signs_are, factor_is, one_linear, sum_is}

-- ---- what is read is in the grammar

abbrev IsThing : ℕ → Thing → (List Mark → List Mark) → Type 0
IsThing n (value a) text = (rest : List Mark) → IsSum n a (symbols_of (text rest)) (symbols_of rest)
IsThing n (tested c) text = (rest : List Mark) → IsLiteral n c (symbols_of (text rest)) (symbols_of rest)

abbrev Sums : ℕ → Grammar Expression
Sums n = sum_at every n true

settled : (n : ℕ) (c : Condition) (text : List Mark → List Mark) → IsThing n (tested c) text → (ds : Turns (relation_cases (Sums n)) (tested c)) → IsThing n (turns_value (relation_cases (Sums n)) (tested c) ds) (λ r. text (turns_text (relation_cases (Sums n)) (tested c) ds r))
settled n c text h done = h
settled n c text h (turn m d ds) = absurd d

related : (n : ℕ) (a : Expression) (text : List Mark → List Mark) → IsThing n (value a) text → (kind : TokenKind) (o : Option Relation) → relation_of kind ≡ o → (d : OfBranch (relation_by o (compared a) (Sums n))) (ds : Turns (relation_cases (Sums n)) (branch_value (relation_by o (compared a) (Sums n)) d)) → IsThing n (turns_value (relation_cases (Sums n)) (branch_value (relation_by o (compared a) (Sums n)) d) ds) (λ r. text (plain (fixed kind) ∷ branch_text (relation_by o (compared a) (Sums n)) d (turns_text (relation_cases (Sums n)) (branch_value (relation_by o (compared a) (Sums n)) d) ds r)))
related n a text h kind None e d ds = absurd d
related n a text h kind (Some r) e d ds = settled n (compare r a ((Sums n).value d.0)) (λ rest. text (plain (fixed kind) ∷ (Sums n).text d.0 rest)) (λ rest. comparison (h (plain (fixed kind) ∷ (Sums n).text d.0 rest)) e (sum_is n true d.0 rest)) ds

relations_are : (n : ℕ) (a : Expression) (text : List Mark → List Mark) → IsThing n (value a) text → (d : Turns (relation_cases (Sums n)) (value a)) → IsThing n (turns_value (relation_cases (Sums n)) (value a) d) (λ r. text (turns_text (relation_cases (Sums n)) (value a) d r))
relations_are n a text h done = h
relations_are n a text h (turn (plain (fixed kind)) d ds) = related n a text h kind (relation_of kind) refl d ds
relations_are n a text h (turn m d ds) = absurd d

product_of : (n : ℕ) (f : Expression) (ts : List Symbol) (d : Turns (star_cases (factor_at every n) true) (f ∷ [])) (rest : List Mark) → IsFactor n f ts (symbols_of (turns_text (star_cases (factor_at every n) true) (f ∷ []) d rest)) → IsProduct n (gathered trees.product (turns_value (star_cases (factor_at every n) true) (f ∷ []) d)) ts (symbols_of rest)
product_of n f ts d rest h =
    let w = stars_are n true (factor_at every n) (factor_is n) (f ∷ []) d rest in
    subst (λ (es : List Expression). IsProduct n (gathered trees.product es) ts (symbols_of rest)) (sym w.joined) (factors h w.are (subst (λ (es : List Expression). is_linear_product (parts_of es) ≡ true) w.joined (w.linear (one_linear f))))

sum_of : (n : ℕ) (p : Expression) (ts : List Symbol) (d : Turns (sum_cases (product_at every n true)) (p ∷ [])) (rest : List Mark) → IsProduct n p ts (symbols_of (turns_text (sum_cases (product_at every n true)) (p ∷ []) d rest)) → IsSum n (gathered trees.sum (turns_value (sum_cases (product_at every n true)) (p ∷ []) d)) ts (symbols_of rest)
sum_of n p ts d rest h =
    let w = signs_are n true (product_at every n true) (λ d rest. (product_of n ((factor_at every n true).value d.0) (symbols_of ((product_at every n true).text d rest)) d.1.0 rest ((factor_is n true d.0 (turns_text (star_cases (factor_at every n) true) ((factor_at every n true).value d.0 ∷ []) d.1.0 rest)).0), λ e. absurd cc)) (p ∷ []) d rest in
    subst (λ (es : List Expression). IsSum n (gathered trees.sum es) ts (symbols_of rest)) (sym w.joined) (products h w.are)

tail_is : (n : ℕ) (f : Expression) (text : List Mark → List Mark) → ((rest : List Mark) → IsFactor n f (symbols_of (text rest)) (symbols_of rest)) → (d : (tail every n f).Of) → IsThing n ((tail every n f).value d) (λ r. text ((tail every n f).text d r))
tail_is n f text h d =
    let stars = star_cases (factor_at every n) true in
    let p : Expression = gathered trees.product (turns_value stars (f ∷ []) d.0.0) in
    let signs = sum_cases (product_at every n true) in
    let s : Expression = gathered trees.sum (turns_value signs (p ∷ []) d.1.0.0) in
    relations_are n s (λ r. text (turns_text stars (f ∷ []) d.0.0 (turns_text signs (p ∷ []) d.1.0.0 r)))
    (λ rest. sum_of n p (symbols_of (text (turns_text stars (f ∷ []) d.0.0 (turns_text signs (p ∷ []) d.1.0.0 rest)))) d.1.0.0 rest
    (product_of n f (symbols_of (text (turns_text stars (f ∷ []) d.0.0 (turns_text signs (p ∷ []) d.1.0.0 rest)))) d.0.0 (turns_text signs (p ∷ []) d.1.0.0 rest) (h (turns_text stars (f ∷ []) d.0.0 (turns_text signs (p ∷ []) d.1.0.0 rest)))))
    d.1.1

abbrev AreLiteral : ℕ → Grammar Condition → Type 0
AreLiteral n lit = (d : lit.Of) (rest : List Mark) → IsLiteral n (lit.value d) (symbols_of (lit.text d rest)) (symbols_of rest)

abbrev AreConjunction : ℕ → Grammar Condition → Type 0
AreConjunction n con = (d : con.Of) (rest : List Mark) → IsConjunction n (con.value d) (symbols_of (con.text d rest)) (symbols_of rest)

record Anded (n : ℕ) (cs all : List Condition) (ts rest : List Symbol) : Type 0 where
  more : List Condition
  are : AreLiterals n more ts rest
  joins : all ≡ cs ++ more

ands_are : (n : ℕ) (lit : Grammar Condition) → AreLiteral n lit → (cs : List Condition) (d : Turns (more_cases is_and lit) cs) (rest : List Mark) → Anded n cs (turns_value (more_cases is_and lit) cs d) (symbols_of (turns_text (more_cases is_and lit) cs d rest)) (symbols_of rest)
ands_are n lit h cs done rest = record { more = []; are = no_literal; joins = sym (append-nil cs) }
ands_are n lit h cs (turn (plain (fixed kinds.And)) d ds) rest =
    let c : Condition = lit.value d.0 in
    let w = ands_are n lit h (cs ++ c ∷ []) ds rest in
    record { more = c ∷ w.more; are = and (h d.0 (turns_text (more_cases is_and lit) (cs ++ c ∷ []) ds rest)) w.are; joins = w.joins ∙ append_assoc cs (c ∷ []) w.more }
ands_are n lit h cs (turn m d ds) rest = absurd d

record Ored (n : ℕ) (cs all : List Condition) (ts rest : List Symbol) : Type 0 where
  more : List Condition
  are : AreConjunctions n more ts rest
  joins : all ≡ cs ++ more

ors_are : (n : ℕ) (con : Grammar Condition) → AreConjunction n con → (cs : List Condition) (d : Turns (more_cases is_or con) cs) (rest : List Mark) → Ored n cs (turns_value (more_cases is_or con) cs d) (symbols_of (turns_text (more_cases is_or con) cs d rest)) (symbols_of rest)
ors_are n con h cs done rest = record { more = []; are = no_conjunction; joins = sym (append-nil cs) }
ors_are n con h cs (turn (plain (fixed kinds.Or)) d ds) rest =
    let c : Condition = con.value d.0 in
    let w = ors_are n con h (cs ++ c ∷ []) ds rest in
    record { more = c ∷ w.more; are = or (h d.0 (turns_text (more_cases is_or con) (cs ++ c ∷ []) ds rest)) w.are; joins = w.joins ∙ append_assoc cs (c ∷ []) w.more }
ors_are n con h cs (turn m d ds) rest = absurd d

conjunction_of : (n : ℕ) (lit : Grammar Condition) → AreLiteral n lit → (c : Condition) (ts : List Symbol) (d : Turns (more_cases is_and lit) (c ∷ [])) (rest : List Mark) → IsLiteral n c ts (symbols_of (turns_text (more_cases is_and lit) (c ∷ []) d rest)) → IsConjunction n (joined all_of (turns_value (more_cases is_and lit) (c ∷ []) d)) ts (symbols_of rest)
conjunction_of n lit h c ts d rest i =
    let w = ands_are n lit h (c ∷ []) d rest in
    subst (λ (cs : List Condition). IsConjunction n (joined all_of cs) ts (symbols_of rest)) (sym w.joins) (literals i w.are)

conjunction_is : (n : ℕ) (lit : Grammar Condition) → AreLiteral n lit → AreConjunction n (conjunction_over lit)
conjunction_is n lit h d rest = conjunction_of n lit h (lit.value d.0) (symbols_of ((conjunction_over lit).text d rest)) d.1.0 rest (h d.0 (turns_text (more_cases is_and lit) (lit.value d.0 ∷ []) d.1.0 rest))

condition_of : (n : ℕ) (con : Grammar Condition) → AreConjunction n con → (c : Condition) (ts : List Symbol) (d : Turns (more_cases is_or con) (c ∷ [])) (rest : List Mark) → IsConjunction n c ts (symbols_of (turns_text (more_cases is_or con) (c ∷ []) d rest)) → IsCondition n (joined some_of (turns_value (more_cases is_or con) (c ∷ []) d)) ts (symbols_of rest)
condition_of n con h c ts d rest i =
    let w = ors_are n con h (c ∷ []) d rest in
    subst (λ (cs : List Condition). IsCondition n (joined some_of cs) ts (symbols_of rest)) (sym w.joins) (conjunctions i w.are)

condition_is_over : (n : ℕ) (lit : Grammar Condition) → AreLiteral n lit → (d : (condition_over lit).Of) (rest : List Mark) → IsCondition n ((condition_over lit).value d) (symbols_of ((condition_over lit).text d rest)) (symbols_of rest)
condition_is_over n lit h d rest =
    let con : Grammar Condition = conjunction_over lit in
    condition_of n con (conjunction_is n lit h) (con.value d.0) (symbols_of ((condition_over lit).text d rest)) d.1.0 rest (conjunction_is n lit h d.0 (turns_text (more_cases is_or con) (con.value d.0 ∷ []) d.1.0 rest))

-- ---- brackets

abbrev Enclosing : ℕ → Grammar Condition → Thing → Grammar Thing
Enclosing n lit x = then (continued lit x) (λ y. then (closed y) (opened every n))

behind_value : (m : ℕ) (a : Expression) (text : List Mark → List Mark) → IsThing m (value a) text → (s : Mark) (e : OfBranch (close_cases (value a) s)) (g : (opened every (suc m) (branch_value (close_cases (value a) s) e)).Of) → IsThing (suc m) ((opened every (suc m) (branch_value (close_cases (value a) s) e)).value g) (λ r. plain (fixed kinds.LeftRound) ∷ text (s ∷ branch_text (close_cases (value a) s) e ((opened every (suc m) (branch_value (close_cases (value a) s) e)).text g r)))
behind_value m a text h (plain (fixed kinds.RightRound)) e g = tail_is (suc m) a (λ r. plain (fixed kinds.LeftRound) ∷ text (plain (fixed kinds.RightRound) ∷ r)) (λ rest. bracketed (h (plain (fixed kinds.RightRound) ∷ rest))) g
behind_value m a text h _ e g = absurd e

behind_test : (m : ℕ) (c : Condition) (text : List Mark → List Mark) → ((rest : List Mark) → IsCondition m c (symbols_of (text rest)) (symbols_of rest)) → (s : Mark) (e : OfBranch (close_cases (tested c) s)) (g : (opened every (suc m) (branch_value (close_cases (tested c) s) e)).Of) → IsThing (suc m) ((opened every (suc m) (branch_value (close_cases (tested c) s) e)).value g) (λ r. plain (fixed kinds.LeftRound) ∷ text (s ∷ branch_text (close_cases (tested c) s) e ((opened every (suc m) (branch_value (close_cases (tested c) s) e)).text g r)))
behind_test m c text h (plain (fixed kinds.RightRound)) e g = λ rest. conditions.plain (conditions.bracketed (h (plain (fixed kinds.RightRound) ∷ rest)))
behind_test m c text h _ e g = absurd e

bracket_is : (m : ℕ) (lit : Grammar Condition) → AreLiteral m lit → (x : Thing) (text : List Mark → List Mark) → IsThing m x text → (d : (Enclosing (suc m) lit x).Of) → IsThing (suc m) ((Enclosing (suc m) lit x).value d) (λ r. plain (fixed kinds.LeftRound) ∷ text ((Enclosing (suc m) lit x).text d r))
bracket_is m lit h (value a) text is d = behind_value m a text is d.1.0.0 d.1.0.1 d.1.1
bracket_is m lit h (tested c) text is d =
    let con : Grammar Condition = conjunction_over lit in
    let ands = turns_value (more_cases is_and lit) (c ∷ []) d.0.0.0 in
    let first : Condition = joined all_of ands in
    let all : Condition = joined some_of (turns_value (more_cases is_or con) (first ∷ []) d.0.1.0.0) in
    behind_test m all (λ r. text (turns_text (more_cases is_and lit) (c ∷ []) d.0.0.0 (turns_text (more_cases is_or con) (first ∷ []) d.0.1.0.0 r)))
    (λ rest. condition_of m con (conjunction_is m lit h) first _ d.0.1.0.0 rest
    (conjunction_of m lit h c _ d.0.0.0 (turns_text (more_cases is_or con) (first ∷ []) d.0.1.0.0 rest)
    (is (turns_text (more_cases is_and lit) (c ∷ []) d.0.0.0 (turns_text (more_cases is_or con) (first ∷ []) d.0.1.0.0 rest)))))
    d.1.0.0 d.1.0.1 d.1.1

-- ---- by levels

literal_by : (n : ℕ) (x : Thing) (i : Is (as_test x)) (text : List Mark → List Mark) → IsThing n x text → (rest : List Mark) → IsLiteral n (the (as_test x) i) (symbols_of (text rest)) (symbols_of rest)
literal_by n (value a) i text h rest = absurd i
literal_by n (tested c) i text h rest = h rest

abbrev AreThing : ℕ → Grammar Thing → Type 0
AreThing n thing = (d : thing.Of) → IsThing n (thing.value d) (thing.text d)

abbrev ArePlain : ℕ → Grammar Condition → Type 0
ArePlain n p = (d : p.Of) (rest : List Mark) → IsPlain n (p.value d) (symbols_of (p.text d rest)) (symbols_of rest)

literal_is : (n : ℕ) (thing : Grammar Thing) → AreThing n thing → AreLiteral n (literal_over thing)
literal_is n thing h d rest = literal_by n (thing.value d.0) d.1 (thing.text d.0) (h d.0) rest

after_is : (n : ℕ) (m : Mark) (b : Behind Expression) → ((d : OfBranch b) (rest : List Mark) → IsFactor n (branch_value b d) (symbols_of (m ∷ branch_text b d rest)) (symbols_of rest)) → (d : OfBranch (after_factor every n b)) → IsThing n (branch_value (after_factor every n b) d) (λ r. m ∷ branch_text (after_factor every n b) d r)
after_is n m (stop k) h d = absurd d
after_is n m (go l) h d = tail_is n (l.value d.0) (λ r. m ∷ l.text d.0 r) (λ rest. h d.0 rest) d.1

factor_branch_is : (n : ℕ) (m : Mark) (d : OfBranch (factor_cases every true (below every n true) m)) (rest : List Mark) → IsFactor n (branch_value (factor_cases every true (below every n true) m) d) (symbols_of (m ∷ branch_text (factor_cases every true (below every n true) m) d rest)) (symbols_of rest)
unfolding factor_at
factor_branch_is zero m d rest = (factor_is zero true (m, d) rest).0
factor_branch_is (suc n) m d rest = (factor_is (suc n) true (m, d) rest).0

plain_is_zero : (m : Mark) (d : OfBranch (plain_cases ground m)) (rest : List Mark) → IsPlain 0 (branch_value (plain_cases ground m) d) (symbols_of (m ∷ branch_text (plain_cases ground m) d rest)) (symbols_of rest)
plain_is_zero (plain (fixed kinds.True)) d rest = always
plain_is_zero (plain (fixed kinds.False)) d rest = never
plain_is_zero _ d rest = absurd d

plain_is_suc : (n : ℕ) (thing : Grammar Thing) (p : Grammar Condition) → AreThing n thing → ArePlain n p → (m : Mark) (d : OfBranch (plain_cases (level thing p) m)) (rest : List Mark) → IsPlain (suc n) (branch_value (plain_cases (level thing p) m) d) (symbols_of (m ∷ branch_text (plain_cases (level thing p) m) d rest)) (symbols_of rest)
plain_is_suc n thing p h i (plain (fixed kinds.Not)) d rest = denied (i d.0 rest)
plain_is_suc n thing p h i (plain (fixed kinds.LeftRound)) d rest =
    let con : Grammar Condition = condition_over (literal_over thing) in
    let one = condition_is_over n (literal_over thing) (literal_is n thing h) d.0 (plain (fixed kinds.RightRound) ∷ rest) in
    subst (λ (c : Condition). IsPlain (suc n) c (fixed kinds.LeftRound ∷ symbols_of ((then con closed).text d rest)) (symbols_of rest)) (sym (closed_value (con.value d.0) d.1))
    (subst (λ (us : List Mark). IsPlain (suc n) (con.value d.0) (fixed kinds.LeftRound ∷ symbols_of (con.text d.0 us)) (symbols_of rest)) (sym (closed_text (con.value d.0) d.1 rest)) (conditions.bracketed one))
plain_is_suc n thing p h i (plain (fixed kinds.True)) d rest = always
plain_is_suc n thing p h i (plain (fixed kinds.False)) d rest = never
plain_is_suc n thing p h i _ d rest = absurd d

thing_is_zero : (m : Mark) (d : OfBranch (thing_cases every 0 ground m)) → IsThing 0 (branch_value (thing_cases every 0 ground m) d) (λ r. m ∷ branch_text (thing_cases every 0 ground m) d r)
thing_is_zero (plain (fixed kinds.LeftRound)) d = absurd d
thing_is_zero (plain (fixed kinds.Not)) d = absurd d
thing_is_zero (plain (fixed kinds.True)) d = λ rest. conditions.plain always
thing_is_zero (plain (fixed kinds.False)) d = λ rest. conditions.plain never
thing_is_zero m d = after_is 0 m (factor_cases every true (below every 0 true) m) (factor_branch_is 0 m) d

thing_is_suc : (n : ℕ) (thing : Grammar Thing) (p : Grammar Condition) → AreThing n thing → ArePlain n p → (m : Mark) (d : OfBranch (thing_cases every (suc n) (level thing p) m)) → IsThing (suc n) (branch_value (thing_cases every (suc n) (level thing p) m) d) (λ r. m ∷ branch_text (thing_cases every (suc n) (level thing p) m) d r)
thing_is_suc n thing p h i (plain (fixed kinds.LeftRound)) d = bracket_is n (literal_over thing) (literal_is n thing h) (thing.value d.0) (thing.text d.0) (h d.0) d.1
thing_is_suc n thing p h i (plain (fixed kinds.Not)) d = λ rest. conditions.plain (denied (i d.0 rest))
thing_is_suc n thing p h i (plain (fixed kinds.True)) d = λ rest. conditions.plain always
thing_is_suc n thing p h i (plain (fixed kinds.False)) d = λ rest. conditions.plain never
thing_is_suc n thing p h i m d = after_is (suc n) m (factor_cases every true (below every (suc n) true) m) (factor_branch_is (suc n) m) d

mutual
  unfolding thing_at plain_at

  things_are : (n : ℕ) → AreThing n (thing_at every n)
  things_are zero d = thing_is_zero d.0 d.1
  things_are (suc n) d = thing_is_suc n (thing_at every n) (plain_at every n) (things_are n) (plains_are n) d.0 d.1

  plains_are : (n : ℕ) → ArePlain n (plain_at every n)
  plains_are zero d rest = plain_is_zero d.0 d.1 rest
  plains_are (suc n) d rest = plain_is_suc n (thing_at every n) (plain_at every n) (things_are n) (plains_are n) d.0 d.1 rest

pub condition_is : (n : ℕ) (d : (condition_at every n).Of) (rest : List Mark) → IsCondition n ((condition_at every n).value d) (symbols_of ((condition_at every n).text d rest)) (symbols_of rest)
condition_is n d rest = condition_is_over n (literal_at every n) (literal_is n (thing_at every n) (things_are n)) d rest
