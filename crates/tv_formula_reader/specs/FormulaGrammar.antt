-- The grammar of formulas as it is read from left to right: after a bracket it may be a sum or a formula that comes. Faults of the kinds
-- that are not kept are none.
use Rattle.std.specs.Prelude.{ℕ, zero, suc, Bool, true, false, List, [], ◌∷◌, ◌++◌, Option, Some, None, codes}
use Rattle.std.specs.Str.{bytes_eq}
use Rattle.tv_language.specs.declared.token.TokenKind.{TokenKind}
use Rattle.tv_language.specs.declared.token.TokenKind.TheVariants as kinds
use Rattle.tv_program.specs.declared.tree.Relation.{Relation}
use Rattle.tv_program.specs.Words.{Word}
use Rattle.tv_program.specs.Trees.{Expression}
use Rattle.tv_language.specs.Symbols.{label, fixed}
use Rattle.tv_language.specs.Conditions.{relation_of}
use Rattle.tv_formula.specs.declared.tree.Path.{Path}
use Rattle.tv_formula.specs.declared.tree.Shape.{Shape}
use Rattle.tv_formula_reader.specs.declared.operators.Single.{Single}
use Rattle.tv_formula.specs.Properties.{Property, truth, compare, at, term, negated, all_of, some_of, fix}
use Rattle.tv_grammar.specs.Langs.{unit, then, mapped, stop, go, headed, turns}
use Rattle.tv_reading.specs.Marks.{Kind, Syntax, Wide, Deep, UnknownName, Mark, plain, refused}
use Rattle.tv_reading.specs.SumGrammar.{refuse_by, sum_at}
use Rattle.tv_reading.specs.ConditionGrammar.{is_and, is_or}
use Rattle.tv_formula_reader.specs.Seen.{Seen}
use Rattle.tv_formula_reader.specs.Choice.{Grammar, Behind, lifted, either}
use Rattle.tv_formula_reader.specs.declared.operators.Operator.{Operator}
use Rattle.tv_formula_reader.specs.declared.operators.Operator.TheVariants.{One, Two}
use Rattle.tv_formula_reader.specs.Operators.{operator_of, applied}
use Rattle.tv_formula_reader.specs.FormulaTexts.{joined}

-- ---- one token

abbrev pub at_kind : {X : Type 0} → (TokenKind → Behind X) → Mark → Behind X
at_kind f (plain (fixed kind)) = f kind
at_kind f _ = stop Syntax

abbrev pub open_by : {X : Type 0} → Grammar X → TokenKind → Behind X
open_by l kinds.LeftRound = go l
open_by l kind = stop Syntax

abbrev pub close_by : {X : Type 0} → X → TokenKind → Behind X
close_by x kinds.RightRound = go (unit x)
close_by x kind = stop Syntax

abbrev pub square_by : {X : Type 0} → Grammar X → TokenKind → Behind X
square_by l kinds.RightSquare = go l
square_by l kind = stop Syntax

abbrev pub end_by : {X : Type 0} → X → TokenKind → Behind X
end_by x kinds.End = go (unit x)
end_by x kind = stop Syntax

-- "(" and l
abbrev pub opened : {X : Type 0} → Grammar X → Grammar X
opened l = headed Syntax (λ t. at_kind (open_by l) t.mark)

-- ")"
abbrev pub closed : {X : Type 0} → X → Grammar X
closed x = headed Syntax (λ t. at_kind (close_by x) t.mark)

-- "]" and l
abbrev pub behind_square : {X : Type 0} → Grammar X → Grammar X
behind_square l = headed Syntax (λ t. at_kind (square_by l) t.mark)

-- the end of the text
abbrev pub at_end : {X : Type 0} → X → Grammar X
at_end x = headed Syntax (λ t. at_kind (end_by x) t.mark)

-- ---- a comparison

abbrev pub summed : (Kind → Bool) → ℕ → Grammar Expression
summed kept n = lifted (sum_at kept n true)

abbrev pub relation_by : Expression → Grammar Expression → Option Relation → Behind Property
relation_by a sum None = stop Syntax
relation_by a sum (Some r) = go (mapped (compare r a) sum)

abbrev pub related_by : Expression → Grammar Expression → TokenKind → Behind Property
related_by a sum kind = relation_by a sum (relation_of kind)

abbrev pub related : Grammar Expression → Expression → Grammar Property
related sum a = headed Syntax (λ t. at_kind (related_by a sum) t.mark)

-- sum relation sum
abbrev pub comparison : (Kind → Bool) → ℕ → Grammar Property
comparison kept n = then (summed kept n) (related (summed kept n))

-- ---- plain formulas

-- the label of a location
abbrev pub label_cases : (Kind → Bool) → Mark → Behind Property
label_cases kept (plain (label l)) = go (closed (at l))
label_cases kept (plain (fixed kinds.Wide)) = refuse_by (kept Wide) Wide (closed (at 0))
label_cases kept (refused k kinds.Name) = refuse_by (kept UnknownName) UnknownName (closed (at 0))
label_cases kept _ = stop Syntax

-- label ")"
abbrev pub labelled : (Kind → Bool) → Grammar Property
labelled kept = headed Syntax (λ t. label_cases kept t.label)

-- "(" label ")"
abbrev pub place : (Kind → Bool) → Grammar Property
place kept = opened (labelled kept)

-- the words `at` and `term`
abbrev pub word_by : (Kind → Bool) → Bool → Bool → Behind Property
word_by kept true is_term = go (place kept)
word_by kept false true = go (unit term)
word_by kept false false = stop Syntax

abbrev pub word_cases : (Kind → Bool) → Word → Behind Property
word_cases kept w = word_by kept (bytes_eq w (codes "at")) (bytes_eq w (codes "term"))

-- "(" formula ")"
abbrev pub argument : Grammar Property → Grammar Property
argument formula = opened (then formula closed)

-- what follows an operator
abbrev pub of_one : Grammar Property → Path → Single → Grammar Property
of_one formula p k = behind_square (mapped (applied p k) (argument formula))

abbrev pub of_two : Grammar Property → Path → Shape → Grammar Property
of_two formula p s = behind_square (then (argument formula) (λ f. mapped (fix p s f) (argument formula)))

abbrev pub operator_by : Grammar Property → Option Operator → Behind Property
operator_by formula None = stop Syntax
operator_by formula (Some (One p k)) = go (of_one formula p k)
operator_by formula (Some (Two p s)) = go (of_two formula p s)

-- the word of an operator alone
abbrev pub operator_cases : Option Operator → Behind Operator
operator_cases None = stop Syntax
operator_cases (Some o) = go (unit o)

abbrev pub operator_word : Grammar Operator
operator_word = headed Syntax (λ t. operator_cases (operator_of t.word))

-- what follows a "["
abbrev pub operated : Grammar Property → Grammar Property
operated formula = headed Syntax (λ t. operator_by formula (operator_of t.word))

-- the level below, if there is one: its formulas and plain formulas
pub data Under : Type 1 where
  ground : Under
  level : Grammar Property → Grammar Property → Under

abbrev pub plain_by : (Kind → Bool) → Under → Word → TokenKind → Behind Property
plain_by kept u w kinds.True = go (unit (truth true))
plain_by kept u w kinds.False = go (unit (truth false))
plain_by kept u w kinds.Name = word_cases kept w
plain_by kept ground w kinds.Not = stop Deep
plain_by kept ground w kinds.LeftRound = stop Deep
plain_by kept ground w kinds.LeftSquare = stop Deep
plain_by kept (level formula plainly) w kinds.Not = go (mapped negated plainly)
plain_by kept (level formula plainly) w kinds.LeftRound = go (then formula closed)
plain_by kept (level formula plainly) w kinds.LeftSquare = go (operated formula)
plain_by kept u w kind = stop Syntax

-- a plain formula that opens no level
abbrev pub leaf_by : (Kind → Bool) → Word → TokenKind → Behind Property
leaf_by kept w kinds.True = go (unit (truth true))
leaf_by kept w kinds.False = go (unit (truth false))
leaf_by kept w kinds.Name = word_cases kept w
leaf_by kept w kind = stop Syntax

abbrev pub leaves : (Kind → Bool) → Grammar Property
leaves kept = headed Syntax (λ t. at_kind (leaf_by kept t.word) t.mark)

abbrev pub plain_over : (Kind → Bool) → Under → Grammar Property
plain_over kept u = headed Syntax (λ t. at_kind (plain_by kept u t.word) t.mark)

-- ---- joined by "&&" or "||"

abbrev pub more_by : Grammar Property → List Property → Bool → Behind (List Property)
more_by item fs false = stop Syntax
more_by item fs true = go (mapped (λ f. fs ++ f ∷ []) item)

abbrev pub more_cases : (TokenKind → Bool) → Grammar Property → List Property → Seen → Behind (List Property)
more_cases joins item fs t = at_kind (λ kind. more_by item fs (joins kind)) t.mark

-- literal { "&&" literal }
abbrev pub conjunction_from : Grammar Property → Property → Grammar Property
conjunction_from literal f = mapped (joined all_of) (turns (more_cases is_and literal) (f ∷ []))

abbrev pub conjunction_over : Grammar Property → Grammar Property
conjunction_over literal = then literal (conjunction_from literal)

-- conjunction { "||" conjunction }
abbrev pub formula_from : Grammar Property → Property → Grammar Property
formula_from conjunction f = mapped (joined some_of) (turns (more_cases is_or conjunction) (f ∷ []))

abbrev pub formula_over : Grammar Property → Grammar Property
formula_over literal = then (conjunction_over literal) (formula_from (conjunction_over literal))

-- ---- by levels

-- what opens n levels at most
unfoldable pub plain_at : (Kind → Bool) → ℕ → Grammar Property
plain_at kept zero = plain_over kept ground
plain_at kept (suc n) = plain_over kept (level (formula_over (either (comparison kept n) (plain_at kept n))) (plain_at kept n))

abbrev pub literal_at : (Kind → Bool) → ℕ → Grammar Property
literal_at kept n = either (comparison kept n) (plain_at kept n)

abbrev pub formula_at : (Kind → Bool) → ℕ → Grammar Property
formula_at kept n = formula_over (literal_at kept n)

-- the level below n
abbrev pub below : (Kind → Bool) → ℕ → Under
below kept zero = ground
below kept (suc n) = level (formula_at kept n) (plain_at kept n)

-- a formula and the end of the text
abbrev pub text_at : (Kind → Bool) → ℕ → Grammar Property
text_at kept n = then (formula_at kept n) at_end
