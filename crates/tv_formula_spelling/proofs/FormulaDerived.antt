-- The signs of the spelling are a formula that stands for the property.
use Rattle.std.proofs.Common.{◌≡◌, ℕ, zero, suc, ◌≤◌, Bool, true, false, cond, List, [], ◌∷◌, ◌++◌, max, Some, refl, sym, ap, subst, ◌∙◌, arith}
use Rattle.std.specs.Prelude.{◌||◌}
use Rattle.tv_language.specs.declared.token.TokenKind.TheVariants.{RightRound}
use Rattle.tv_program.specs.declared.tree.Relation.{Relation}
use Rattle.tv_program.specs.declared.tree.Relation.TheVariants.{Less, LessEqual, Greater, GreaterEqual, Equal, NotEqual}
use Rattle.tv_program.specs.Trees.{Expression}
use Rattle.tv_language.specs.Symbols.{Vocabulary, fixed}
use Rattle.tv_formula.specs.declared.tree.Path.{Path}
use Rattle.tv_formula.specs.declared.tree.Path.TheVariants.{Every, Any}
use Rattle.tv_formula.specs.declared.tree.Shape.{Shape}
use Rattle.tv_formula.specs.declared.tree.Shape.TheVariants.{Until, Weak, Release, Strong}
use Rattle.tv_formula.specs.Properties.{Property, truth, compare, at, term, negated, all_of, some_of, next, fix, Properties, none, more}
use Rattle.tv_formula.specs.Views.{properties_of}
use Rattle.tv_formula_reader.specs.declared.operators.Single.{Single}
use Rattle.tv_formula_reader.specs.declared.operators.Single.TheVariants as singles
use Rattle.tv_formula_reader.specs.declared.operators.Operator.TheVariants.{One, Two}
use Rattle.tv_formula_reader.specs.Operators.{operator_of, applied}
use Rattle.tv_formula_reader.specs.Signs.{Sign}
use Rattle.tv_formula_reader.specs.FormulaTexts as grammar
use Rattle.tv_formula_reader.specs.FormulaTexts.{IsPlain, IsArgument, IsLiteral, AreLiterals, IsConjunction, AreConjunctions, IsFormula}
use Rattle.tv_spelling.proofs.Pieces.{Piece, blank, word, bracket_pieces}
use Rattle.tv_spelling.proofs.SumPieces.{expression_pieces}
use Rattle.tv_spelling.proofs.SumLevels.{bracket_levels, sum_levels}
use Rattle.tv_spelling.proofs.ConditionPieces.{relation_kind, relation_word}
use Rattle.tv_spelling.proofs.ConditionDerived.{relation_known}
use Rattle.tv_formula_spelling.specs.declared.formulas.Form.{Form}
use Rattle.tv_formula_spelling.specs.declared.formulas.Form.TheVariants.{Finally, Globally, Both}
use Rattle.tv_formula_spelling.specs.Formulas.{path_letter, shape_letter, is_joined, is_all, is_some, is_truth, form_of}
use Rattle.tv_formula_spelling.proofs.FormulaPieces.{operator_pieces, fix_pieces, formula_pieces, further_all_pieces, further_some_pieces}
use Rattle.tv_formula_spelling.proofs.FormulaReady.{SumReady, Ready, AllReady, formula_levels, all_levels, some_levels, plain_levels, literal_levels, conjunction_levels}
use Rattle.tv_formula_spelling.proofs.SumSigns.{sign_of, signs_of, sum_signs}

-- the properties in a list
abbrev listed : Properties → List Property
listed none = []
listed (more f fs) = f ∷ listed fs

listed_are : (fs : Properties) → properties_of (listed fs) ≡ fs
listed_are none = refl
listed_are (more f fs) = ap (more f) (listed_are fs)

abbrev pieces_of : Vocabulary → Property → List Piece → List Piece
pieces_of v f rest = formula_pieces v.variables v.labels f rest

-- what the signs of some pieces are, in a part of the grammar
abbrev Shows : (ℕ → Property → List Sign → List Sign → Type 0) → Vocabulary → (List Piece → List Piece) → Property → ℕ → Type 0
Shows Is v pieces f levels = (n : ℕ) (rest : List Piece) → levels ≤ n → Is n f (signs_of v (pieces rest)) (signs_of v rest)

-- the formula is shown wherever it may stand, with brackets where it needs them
record IsShown (v : Vocabulary) (f : Property) : Type 0 where
  as_formula : Shows IsFormula v (pieces_of v f) f (formula_levels f)
  as_conjunction : Shows IsConjunction v (bracket_pieces (is_some f) (pieces_of v f)) f (conjunction_levels f)
  as_literal : Shows IsLiteral v (bracket_pieces (is_all f || is_some f) (pieces_of v f)) f (literal_levels f)
  as_plain : Shows IsPlain v (bracket_pieces (is_joined f) (pieces_of v f)) f (plain_levels f)

conjunction_of_literal : {n : ℕ} {f : Property} {ts rest : List Sign} → IsLiteral n f ts rest → IsConjunction n f ts rest
conjunction_of_literal l = grammar.literals l grammar.no_literal

formula_of_conjunction : {n : ℕ} {f : Property} {ts rest : List Sign} → IsConjunction n f ts rest → IsFormula n f ts rest
formula_of_conjunction l = grammar.conjunctions l grammar.no_conjunction

formula_of_literal : {n : ℕ} {f : Property} {ts rest : List Sign} → IsLiteral n f ts rest → IsFormula n f ts rest
formula_of_literal l = formula_of_conjunction (conjunction_of_literal l)

argument : (v : Vocabulary) (f : Property) (levels : ℕ) (pieces : List Piece → List Piece) → Shows IsFormula v pieces f levels → Shows IsArgument v (bracket_pieces true pieces) f levels
argument v f levels pieces shown n rest l = grammar.enclosed refl (shown n (word RightRound (41 ∷ []) ∷ rest) l) refl

in_brackets : (v : Vocabulary) (f : Property) (levels : ℕ) (pieces : List Piece → List Piece) → Shows IsFormula v pieces f levels → Shows IsPlain v (bracket_pieces true pieces) f (suc levels)
in_brackets v f levels pieces shown zero rest l = absurd (omega arith)
in_brackets v f levels pieces shown (suc n) rest l = grammar.bracketed (argument v f levels pieces shown n rest (omega arith))

-- a formula that needs no brackets anywhere
bare : (v : Vocabulary) (f : Property) → is_joined f ≡ false → is_all f ≡ false → is_some f ≡ false → Shows IsPlain v (pieces_of v f) f (formula_levels f) → IsShown v f
bare v f j a s shown = record {
  as_formula = λ n rest l. formula_of_literal (grammar.plain (shown n rest l));
  as_conjunction = subst (λ (b : Bool). Shows IsConjunction v (bracket_pieces b (pieces_of v f)) f (bracket_levels b (formula_levels f))) (sym s) (λ n rest l. conjunction_of_literal (grammar.plain (shown n rest l)));
  as_literal = subst (λ (b : Bool). Shows IsLiteral v (bracket_pieces (b || is_some f) (pieces_of v f)) f (bracket_levels (b || is_some f) (formula_levels f))) (sym a)
      (subst (λ (b : Bool). Shows IsLiteral v (bracket_pieces b (pieces_of v f)) f (bracket_levels b (formula_levels f))) (sym s) (λ n rest l. grammar.plain (shown n rest l)));
  as_plain = subst (λ (b : Bool). Shows IsPlain v (bracket_pieces b (pieces_of v f)) f (bracket_levels b (formula_levels f))) (sym j) shown;
}

-- ---- formulas of one kind

truth_shown : (v : Vocabulary) (b : Bool) → Shows IsPlain v (pieces_of v (truth b)) (truth b) 0
truth_shown v true n rest l = grammar.always refl
truth_shown v false n rest l = grammar.never refl

place_shown : (v : Vocabulary) (l : ℕ) → Ready v (at l) → Shows IsPlain v (pieces_of v (at l)) (at l) 0
place_shown v l h n rest w = grammar.located refl refl refl h.1 refl

term_shown : (v : Vocabulary) → Shows IsPlain v (pieces_of v term) term 0
term_shown v n rest l = grammar.ends refl refl

denial : (v : Vocabulary) (f : Property) → IsShown v f → Shows IsPlain v (pieces_of v (negated f)) (negated f) (suc (plain_levels f))
denial v f shown zero rest l = absurd (omega arith)
denial v f shown (suc n) rest l = grammar.denied refl (shown.as_plain n rest (omega arith))

relation_sign : (v : Vocabulary) (r : Relation) → (sign_of v (relation_kind r) (relation_word r)).symbol ≡ fixed (relation_kind r)
relation_sign v Less = refl
relation_sign v LessEqual = refl
relation_sign v Greater = refl
relation_sign v GreaterEqual = refl
relation_sign v Equal = refl
relation_sign v NotEqual = refl

comparison : (v : Vocabulary) (r : Relation) (a b : Expression) → SumReady v.variables a → SumReady v.variables b → Shows IsLiteral v (pieces_of v (compare r a b)) (compare r a b) (formula_levels (compare r a b))
comparison v r a b first second n rest l =
    let ls : max (sum_levels a) (sum_levels b) ≤ n = l in
    let x = sum_signs v a n first (omega arith) in
    let y = sum_signs v b n second (omega arith) in
    let t : Sign = sign_of v (relation_kind r) (relation_word r) in
    let whole : signs_of v (pieces_of v (compare r a b) rest) ≡ x.front ++ (t ∷ (y.front ++ signs_of v rest)) =
    x.parts (blank ∷ word (relation_kind r) (relation_word r) ∷ blank ∷ expression_pieces v.variables b rest) ∙ ap (λ (ts : List Sign). x.front ++ (t ∷ ts)) (y.parts rest) in
    subst (λ (ts : List Sign). IsLiteral n (compare r a b) ts (signs_of v rest)) (sym whole) (grammar.comparison x.front t y.front x.is (relation_sign v r) (relation_known r) y.is)

shown_comparison : (v : Vocabulary) (r : Relation) (a b : Expression) → SumReady v.variables a → SumReady v.variables b → IsShown v (compare r a b)
shown_comparison v r a b first second =
    let literal = comparison v r a b first second in
    let whole : Shows IsFormula v (pieces_of v (compare r a b)) (compare r a b) (formula_levels (compare r a b)) = λ n rest l. formula_of_literal (literal n rest l) in
    record {
      as_formula = whole;
      as_conjunction = λ n rest l. conjunction_of_literal (literal n rest l);
      as_literal = literal;
      as_plain = in_brackets v (compare r a b) (formula_levels (compare r a b)) (pieces_of v (compare r a b)) whole;
    }

-- ---- operators

next_word : (p : Path) → operator_of (path_letter p ∷ 88 ∷ []) ≡ Some (One p singles.Successor)
next_word Every = refl
next_word Any = refl

finally_word : (p : Path) → operator_of (path_letter p ∷ 70 ∷ []) ≡ Some (One p singles.Finally)
finally_word Every = refl
finally_word Any = refl

globally_word : (p : Path) → operator_of (path_letter p ∷ 71 ∷ []) ≡ Some (One p singles.Globally)
globally_word Every = refl
globally_word Any = refl

shape_word : (p : Path) (s : Shape) → operator_of (path_letter p ∷ shape_letter s ∷ []) ≡ Some (Two p s)
shape_word Every Until = refl
shape_word Every Weak = refl
shape_word Every Release = refl
shape_word Every Strong = refl
shape_word Any Until = refl
shape_word Any Weak = refl
shape_word Any Release = refl
shape_word Any Strong = refl

one_shown : (v : Vocabulary) (p : Path) (k : Single) (letter : ℕ) (f : Property) → operator_of (path_letter p ∷ letter ∷ []) ≡ Some (One p k) → IsShown v f → Shows IsPlain v (λ rest. operator_pieces p letter (bracket_pieces true (pieces_of v f) rest)) (applied p k f) (suc (formula_levels f))
one_shown v p k letter f is shown zero rest l = absurd (omega arith)
one_shown v p k letter f is shown (suc n) rest l = grammar.of_one refl is refl (argument v f (formula_levels f) (pieces_of v f) shown.as_formula n rest (omega arith))

both_shown : (v : Vocabulary) (p : Path) (s : Shape) (f g : Property) → IsShown v f → IsShown v g → Shows IsPlain v (fix_pieces p s Both (pieces_of v f) (pieces_of v g)) (fix p s f g) (suc (max (formula_levels f) (formula_levels g)))
both_shown v p s f g first second zero rest l = absurd (omega arith)
both_shown v p s f g first second (suc n) rest l =
    let ls : suc (max (formula_levels f) (formula_levels g)) ≤ suc n = l in
    grammar.of_two refl (shape_word p s) refl
    (argument v f (formula_levels f) (pieces_of v f) first.as_formula n (bracket_pieces true (pieces_of v g) rest) (omega arith))
    (argument v g (formula_levels g) (pieces_of v g) second.as_formula n rest (omega arith))

truth_is : (f : Property) (b : Bool) → is_truth f b ≡ true → f ≡ truth b
truth_is (truth true) true e = refl
truth_is (truth true) false e = absurd cc
truth_is (truth false) true e = absurd cc
truth_is (truth false) false e = refl
truth_is (compare r x y) b e = absurd cc
truth_is (at l) b e = absurd cc
truth_is term b e = absurd cc
truth_is (negated f) b e = absurd cc
truth_is (all_of fs) b e = absurd cc
truth_is (some_of fs) b e = absurd cc
truth_is (next p f) b e = absurd cc
truth_is (fix p s f g) b e = absurd cc

-- the form is that of the tree
data IsForm (s : Shape) (f g : Property) : Form → Type 0 where
  finally : s ≡ Until → f ≡ truth true → IsForm s f g Finally
  globally : s ≡ Weak → g ≡ truth false → IsForm s f g Globally
  both : IsForm s f g Both

until_form : (f g : Property) (b : Bool) → is_truth f true ≡ b → IsForm Until f g (cond b Finally Both)
until_form f g true e = finally refl (truth_is f true e)
until_form f g false e = both

weak_form : (f g : Property) (b : Bool) → is_truth g false ≡ b → IsForm Weak f g (cond b Globally Both)
weak_form f g true e = globally refl (truth_is g false e)
weak_form f g false e = both

form_is : (s : Shape) (f g : Property) → IsForm s f g (form_of s f g)
form_is Until f g = until_form f g (is_truth f true) refl
form_is Weak f g = weak_form f g (is_truth g false) refl
form_is Release f g = both
form_is Strong f g = both

fix_by : (v : Vocabulary) (p : Path) (s : Shape) (f g : Property) (form : Form) → IsForm s f g form → IsShown v f → IsShown v g → Shows IsPlain v (fix_pieces p s form (pieces_of v f) (pieces_of v g)) (fix p s f g) (suc (max (formula_levels f) (formula_levels g)))
fix_by v p s f g Both w first second = both_shown v p s f g first second
fix_by v p s f g Finally (finally e is) first second = λ n rest l.
    let ls : suc (max (formula_levels f) (formula_levels g)) ≤ n = l in
    let one : IsPlain n (fix p Until (truth true) g) (signs_of v (operator_pieces p 70 (bracket_pieces true (pieces_of v g) rest))) (signs_of v rest) = one_shown v p singles.Finally 70 g (finally_word p) second n rest (omega arith) in
    subst (λ (t : Shape). IsPlain n (fix p t f g) (signs_of v (operator_pieces p 70 (bracket_pieces true (pieces_of v g) rest))) (signs_of v rest)) (sym e)
    (subst (λ (h : Property). IsPlain n (fix p Until h g) (signs_of v (operator_pieces p 70 (bracket_pieces true (pieces_of v g) rest))) (signs_of v rest)) (sym is) one)
fix_by v p s f g Globally (globally e is) first second = λ n rest l.
    let ls : suc (max (formula_levels f) (formula_levels g)) ≤ n = l in
    let one : IsPlain n (fix p Weak f (truth false)) (signs_of v (operator_pieces p 71 (bracket_pieces true (pieces_of v f) rest))) (signs_of v rest) = one_shown v p singles.Globally 71 f (globally_word p) first n rest (omega arith) in
    subst (λ (t : Shape). IsPlain n (fix p t f g) (signs_of v (operator_pieces p 71 (bracket_pieces true (pieces_of v f) rest))) (signs_of v rest)) (sym e)
    (subst (λ (h : Property). IsPlain n (fix p Weak f h) (signs_of v (operator_pieces p 71 (bracket_pieces true (pieces_of v f) rest))) (signs_of v rest)) (sym is) one)

-- ---- joined

shown_all : (v : Vocabulary) (fs : Properties) → Shows IsConjunction v (pieces_of v (all_of fs)) (all_of fs) (all_levels fs) → IsShown v (all_of fs)
shown_all v fs shown =
    let whole : Shows IsFormula v (pieces_of v (all_of fs)) (all_of fs) (all_levels fs) = λ n rest l. formula_of_conjunction (shown n rest l) in
    let enclosed = in_brackets v (all_of fs) (all_levels fs) (pieces_of v (all_of fs)) whole in
    record {
      as_formula = whole;
      as_conjunction = shown;
      as_literal = λ n rest l. grammar.plain (enclosed n rest l);
      as_plain = enclosed;
    }

shown_some : (v : Vocabulary) (fs : Properties) → Shows IsFormula v (pieces_of v (some_of fs)) (some_of fs) (some_levels fs) → IsShown v (some_of fs)
shown_some v fs shown =
    let enclosed = in_brackets v (some_of fs) (some_levels fs) (pieces_of v (some_of fs)) shown in
    record {
      as_formula = shown;
      as_conjunction = λ n rest l. conjunction_of_literal (grammar.plain (enclosed n rest l));
      as_literal = λ n rest l. grammar.plain (enclosed n rest l);
      as_plain = enclosed;
    }

-- formulas after the first
abbrev ShowsLiterals : Vocabulary → Properties → Type 0
ShowsLiterals v fs = (n : ℕ) (rest : List Piece) → all_levels fs ≤ n → AreLiterals n (listed fs) (signs_of v (further_all_pieces v.variables v.labels fs rest)) (signs_of v rest)

abbrev ShowsConjunctions : Vocabulary → Properties → Type 0
ShowsConjunctions v fs = (n : ℕ) (rest : List Piece) → some_levels fs ≤ n → AreConjunctions n (listed fs) (signs_of v (further_some_pieces v.variables v.labels fs rest)) (signs_of v rest)

all_literals : (v : Vocabulary) (f g : Property) (fs : Properties) → IsShown v f → ShowsLiterals v (more g fs) → Shows IsConjunction v (pieces_of v (all_of (more f (more g fs)))) (all_of (more f (more g fs))) (all_levels (more f (more g fs)))
all_literals v f g fs first others n rest l =
    let ls : max (literal_levels f) (all_levels (more g fs)) ≤ n = l in
    subst (λ (gs : Properties). IsConjunction n (all_of (more f (more g gs))) (signs_of v (pieces_of v (all_of (more f (more g fs))) rest)) (signs_of v rest)) (listed_are fs)
    (grammar.literals (first.as_literal n (further_all_pieces v.variables v.labels (more g fs) rest) (omega arith)) (others n rest (omega arith)))

some_conjunctions : (v : Vocabulary) (f g : Property) (fs : Properties) → IsShown v f → ShowsConjunctions v (more g fs) → Shows IsFormula v (pieces_of v (some_of (more f (more g fs)))) (some_of (more f (more g fs))) (some_levels (more f (more g fs)))
some_conjunctions v f g fs first others n rest l =
    let ls : max (conjunction_levels f) (some_levels (more g fs)) ≤ n = l in
    subst (λ (gs : Properties). IsFormula n (some_of (more f (more g gs))) (signs_of v (pieces_of v (some_of (more f (more g fs))) rest)) (signs_of v rest)) (listed_are fs)
    (grammar.conjunctions (first.as_conjunction n (further_some_pieces v.variables v.labels (more g fs) rest) (omega arith)) (others n rest (omega arith)))

literal_added : (v : Vocabulary) (f : Property) (fs : Properties) → IsShown v f → ShowsLiterals v fs → ShowsLiterals v (more f fs)
literal_added v f fs first others n rest l =
    let ls : max (literal_levels f) (all_levels fs) ≤ n = l in
    grammar.and refl (first.as_literal n (further_all_pieces v.variables v.labels fs rest) (omega arith)) (others n rest (omega arith))

conjunction_added : (v : Vocabulary) (f : Property) (fs : Properties) → IsShown v f → ShowsConjunctions v fs → ShowsConjunctions v (more f fs)
conjunction_added v f fs first others n rest l =
    let ls : max (conjunction_levels f) (some_levels fs) ≤ n = l in
    grammar.or refl (first.as_conjunction n (further_some_pieces v.variables v.labels fs rest) (omega arith)) (others n rest (omega arith))

mutual
  shown : (v : Vocabulary) (f : Property) → Ready v f → IsShown v f
  shown v (truth b) h = bare v (truth b) refl refl refl (truth_shown v b)
  shown v (compare r a b) h = shown_comparison v r a b h.0 h.1
  shown v (at l) h = bare v (at l) refl refl refl (place_shown v l h)
  shown v term h = bare v term refl refl refl (term_shown v)
  shown v (negated f) h = bare v (negated f) refl refl refl (denial v f (shown v f h))
  shown v (all_of none) h = absurd (let no = h.0 in cc)
  shown v (all_of (more f none)) h = absurd (let no = h.0 in cc)
  shown v (all_of (more f (more g fs))) h = shown_all v (more f (more g fs)) (all_literals v f g fs (shown v f h.1.0) (literals_shown v (more g fs) h.1.1))
  shown v (some_of none) h = absurd (let no = h.0 in cc)
  shown v (some_of (more f none)) h = absurd (let no = h.0 in cc)
  shown v (some_of (more f (more g fs))) h = shown_some v (more f (more g fs)) (some_conjunctions v f g fs (shown v f h.1.0) (conjunctions_shown v (more g fs) h.1.1))
  shown v (next p f) h = bare v (next p f) refl refl refl (one_shown v p singles.Successor 88 f (next_word p) (shown v f h))
  shown v (fix p s f g) h = bare v (fix p s f g) refl refl refl (fix_by v p s f g (form_of s f g) (form_is s f g) (shown v f h.0) (shown v g h.1))

  literals_shown : (v : Vocabulary) (fs : Properties) → AllReady v fs → ShowsLiterals v fs
  literals_shown v none h = λ n rest l. grammar.no_literal
  literals_shown v (more f fs) h = literal_added v f fs (shown v f h.0) (literals_shown v fs h.1)

  conjunctions_shown : (v : Vocabulary) (fs : Properties) → AllReady v fs → ShowsConjunctions v fs
  conjunctions_shown v none h = λ n rest l. grammar.no_conjunction
  conjunctions_shown v (more f fs) h = conjunction_added v f fs (shown v f h.0) (conjunctions_shown v fs h.1)

-- the signs of the whole text
pub formula_derived : (v : Vocabulary) (f : Property) (n : ℕ) → Ready v f → formula_levels f ≤ n → IsFormula n f (signs_of v (formula_pieces v.variables v.labels f [])) (grammar.ended ∷ [])
formula_derived v f n h l = (shown v f h).as_formula n [] l
