-- Formulas are read exactly.
use Rattle.std.proofs.Common.{◌≡◌, ℕ, ◌≤◌, Bool, true, false, List, [], ◌∷◌, ◌++◌, length, Option, Some, None, refl, ap, length-append, arith}
use Rattle.tv_language.specs.declared.token.TokenKind.{TokenKind}
use Rattle.tv_language.specs.declared.token.TokenKind.TheVariants as kinds
use Rattle.tv_program.specs.declared.tree.Relation.{Relation}
use Rattle.tv_program.specs.Trees.{Expression}
use Rattle.tv_program.specs.Words.{Word}
use Rattle.tv_language.specs.Symbols.{label, fixed}
use Rattle.tv_language.specs.Conditions.{relation_of}
use Rattle.tv_formula.specs.Properties.{Property, truth, compare, at, term, negated, all_of, some_of, fix}
use Rattle.tv_grammar.specs.Langs.{then, mapped, headed, turns, OfBranch}
use Rattle.tv_grammar.specs.Exact.{Exact, ExactBranch}
use Rattle.tv_grammar.proofs.ExactLemmas.{unit_exact, then_exact, mapped_exact, headed_exact}
use Rattle.tv_grammar.proofs.TurnLemmas.{turns_exact}
use Rattle.tv_reading.specs.Marks.{Kind, Syntax, Wide, UnknownName, Mark, plain, refused}
use Rattle.tv_reading.specs.SumGrammar.{sum_at, sum_goes}
use Rattle.tv_reading.proofs.SumLemmas.{refuse_exact, sum_exact}
use Rattle.tv_formula_reader.specs.Seen.{Seen}
use Rattle.tv_formula_reader.specs.Choice.{Grammar, Behind}
use Rattle.tv_formula_reader.specs.declared.operators.Operator.{Operator}
use Rattle.tv_formula_reader.specs.declared.operators.Operator.TheVariants.{One, Two}
use Rattle.tv_formula_reader.specs.Operators.{operator_of, applied}
use Rattle.tv_formula_reader.specs.FormulaTexts.{joined}
use Rattle.tv_reading.specs.ConditionGrammar.{is_and, is_or}
use Rattle.tv_formula_reader.specs.FormulaGrammar.{at_kind, open_by, close_by, square_by, end_by, opened, closed, behind_square, at_end, summed, relation_by, related_by, related, comparison, label_cases, place, word_by, argument, operator_by, operated, Under, ground, level, plain_by, plain_over, more_by, more_cases, conjunction_from, conjunction_over, formula_from, formula_over}
use Rattle.tv_formula_reader.proofs.ChoiceLemmas.{lifted_exact}
use Rattle.tv_formula_reader.proofs.SumHalts.{is_right_mark}

-- a text is no shorter than what follows it
pub text_longer : {X : Type 0} (l : Grammar X) → Exact l → (d : l.Of) (r : List Seen) → length r ≤ length (l.text d r)
text_longer l h d r = omega (arith, ap length (h.append d [] r), length-append (l.text d []) r)

-- ---- one token

pub kind_branch : {X : Type 0} (f : TokenKind → Behind X) → ((kind : TokenKind) → ExactBranch (f kind)) → (m : Mark) → ExactBranch (at_kind f m)
kind_branch f h (plain (fixed kind)) = h kind
kind_branch f h _ = tt

pub kind_headed : {X : Type 0} (f : Seen → TokenKind → Behind X) → ((t : Seen) (kind : TokenKind) → ExactBranch (f t kind)) → (t0 : Seen) → OfBranch (at_kind (f t0) t0.mark) → Exact (headed Syntax (λ t. at_kind (f t) t.mark))
kind_headed f h t0 d0 = headed_exact Syntax (λ t. at_kind (f t) t.mark) (λ t. kind_branch (f t) (h t) t.mark) t0 d0

-- a token that is seen as this one everywhere
abbrev pub token_of : Mark → Word → Seen
token_of m w = record { mark = m; label = m; word = w }

open_branch : {X : Type 0} (l : Grammar X) → Exact l → (kind : TokenKind) → ExactBranch (open_by l kind)
open_branch l h kinds.LeftRound = h
open_branch l h _ = tt

pub opened_exact : {X : Type 0} (l : Grammar X) → Exact l → Exact (opened l)
opened_exact l h = kind_headed (λ t kind. open_by l kind) (λ t. open_branch l h) (token_of (plain (fixed kinds.LeftRound)) []) h.some

close_branch : {X : Type 0} (x : X) (kind : TokenKind) → ExactBranch (close_by x kind)
close_branch x kinds.RightRound = unit_exact x
close_branch x _ = tt

pub closed_exact : {X : Type 0} (x : X) → Exact (closed x)
closed_exact x = kind_headed (λ t kind. close_by x kind) (λ t. close_branch x) (token_of (plain (fixed kinds.RightRound)) []) tt

square_branch : {X : Type 0} (l : Grammar X) → Exact l → (kind : TokenKind) → ExactBranch (square_by l kind)
square_branch l h kinds.RightSquare = h
square_branch l h _ = tt

pub square_exact : {X : Type 0} (l : Grammar X) → Exact l → Exact (behind_square l)
square_exact l h = kind_headed (λ t kind. square_by l kind) (λ t. square_branch l h) (token_of (plain (fixed kinds.RightSquare)) []) h.some

end_branch : {X : Type 0} (x : X) (kind : TokenKind) → ExactBranch (end_by x kind)
end_branch x kinds.End = unit_exact x
end_branch x _ = tt

pub end_exact : {X : Type 0} (x : X) → Exact (at_end x)
end_exact x = kind_headed (λ t kind. end_by x kind) (λ t. end_branch x) (token_of (plain (fixed kinds.End)) []) tt

-- ---- a comparison

pub summed_exact : (kept : Kind → Bool) (n : ℕ) → Exact (summed kept n)
summed_exact kept n = lifted_exact (sum_at kept n true) (sum_exact kept n true)

relation_branch : (a : Expression) (sum : Grammar Expression) → Exact sum → (o : Option Relation) → ExactBranch (relation_by a sum o)
relation_branch a sum h None = tt
relation_branch a sum h (Some r) = mapped_exact (compare r a) sum h

pub related_exact : (sum : Grammar Expression) → Exact sum → (a : Expression) → Exact (related sum a)
related_exact sum h a = kind_headed (λ t kind. related_by a sum kind) (λ t kind. relation_branch a sum h (relation_of kind)) (token_of (plain (fixed kinds.Less)) []) (h.some, tt)

pub comparison_exact : (kept : Kind → Bool) (n : ℕ) → Exact (comparison kept n)
comparison_exact kept n = then_exact (summed kept n) (related (summed kept n)) (summed_exact kept n) (related_exact (summed kept n) (summed_exact kept n))

-- ---- plain formulas

label_branch : (kept : Kind → Bool) (m : Mark) → ExactBranch (label_cases kept m)
label_branch kept (plain (label l)) = closed_exact (at l)
label_branch kept (plain (fixed kinds.Wide)) = refuse_exact (kept Wide) Wide (closed (at 0)) (closed_exact (at 0))
label_branch kept (refused k kinds.Name) = refuse_exact (kept UnknownName) UnknownName (closed (at 0)) (closed_exact (at 0))
label_branch kept _ = tt

pub label_exact : (kept : Kind → Bool) → Exact (headed Syntax (λ t. label_cases kept t.label))
label_exact kept = headed_exact Syntax (λ t. label_cases kept t.label) (λ t. label_branch kept t.label) (token_of (plain (label 0)) []) (closed_exact (at 0)).some

pub place_exact : (kept : Kind → Bool) → Exact (place kept)
place_exact kept = opened_exact (headed Syntax (λ t. label_cases kept t.label)) (label_exact kept)

pub word_branch : (kept : Kind → Bool) (a b : Bool) → ExactBranch (word_by kept a b)
word_branch kept true b = place_exact kept
word_branch kept false true = unit_exact term
word_branch kept false false = tt

pub closing_exact : (formula : Grammar Property) → Exact formula → Exact (then formula closed)
closing_exact formula h = then_exact formula closed h closed_exact

pub argument_exact : (formula : Grammar Property) → Exact formula → Exact (argument formula)
argument_exact formula h = opened_exact (then formula closed) (closing_exact formula h)

pub operator_branch : (formula : Grammar Property) → Exact formula → (o : Option Operator) → ExactBranch (operator_by formula o)
operator_branch formula h None = tt
operator_branch formula h (Some (One p k)) = square_exact (mapped (applied p k) (argument formula)) (mapped_exact (applied p k) (argument formula) (argument_exact formula h))
operator_branch formula h (Some (Two p s)) = square_exact (then (argument formula) (λ f. mapped (fix p s f) (argument formula))) (then_exact (argument formula) (λ f. mapped (fix p s f) (argument formula)) (argument_exact formula h) (λ f. mapped_exact (fix p s f) (argument formula) (argument_exact formula h)))

-- AX
abbrev next_word : Word
next_word = 65 ∷ 88 ∷ []

pub operated_exact : (formula : Grammar Property) → Exact formula → Exact (operated formula)
operated_exact formula h = headed_exact Syntax (λ t. operator_by formula (operator_of t.word)) (λ t. operator_branch formula h (operator_of t.word)) (token_of (plain (fixed kinds.Name)) next_word) (operator_branch formula h (operator_of next_word)).some

abbrev pub ExactUnder : Under → Type 0
ExactUnder ground = Unit {0}
ExactUnder (level formula plainly) = Exact formula × Exact plainly

pub plain_branch : (kept : Kind → Bool) (u : Under) → ExactUnder u → (w : Word) (kind : TokenKind) → ExactBranch (plain_by kept u w kind)
plain_branch kept ground h w kinds.True = unit_exact (truth true)
plain_branch kept ground h w kinds.False = unit_exact (truth false)
plain_branch kept ground h w kinds.Name = word_branch kept _ _
plain_branch kept (level formula plainly) h w kinds.True = unit_exact (truth true)
plain_branch kept (level formula plainly) h w kinds.False = unit_exact (truth false)
plain_branch kept (level formula plainly) h w kinds.Name = word_branch kept _ _
plain_branch kept ground h w kinds.Not = tt
plain_branch kept ground h w kinds.LeftRound = tt
plain_branch kept ground h w kinds.LeftSquare = tt
plain_branch kept (level formula plainly) h w kinds.Not = mapped_exact negated plainly h.1
plain_branch kept (level formula plainly) h w kinds.LeftRound = closing_exact formula h.0
plain_branch kept (level formula plainly) h w kinds.LeftSquare = operated_exact formula h.0
plain_branch kept ground h w _ = tt
plain_branch kept (level formula plainly) h w _ = tt

always_plain : (kept : Kind → Bool) (u : Under) → OfBranch (plain_by kept u [] kinds.True)
always_plain kept ground = tt
always_plain kept (level formula plainly) = tt

pub plain_exact_over : (kept : Kind → Bool) (u : Under) → ExactUnder u → Exact (plain_over kept u)
plain_exact_over kept u h = kind_headed (λ t. plain_by kept u t.word) (λ t. plain_branch kept u h t.word) (token_of (plain (fixed kinds.True)) []) (always_plain kept u)

-- ---- joined by "&&" or "||"

pub more_branch : (item : Grammar Property) → Exact item → (fs : List Property) (b : Bool) → ExactBranch (more_by item fs b)
more_branch item h fs false = tt
more_branch item h fs true = mapped_exact (λ f. fs ++ f ∷ []) item h

pub turn_branch : (joins : TokenKind → Bool) (item : Grammar Property) → Exact item → (fs : List Property) (t : Seen) → ExactBranch (more_cases joins item fs t)
turn_branch joins item h fs t = kind_branch (λ kind. more_by item fs (joins kind)) (λ kind. more_branch item h fs (joins kind)) t.mark

pub mores_exact : (joins : TokenKind → Bool) (item : Grammar Property) → Exact item → (fs : List Property) → Exact (turns (more_cases joins item) fs)
mores_exact joins item h fs = turns_exact (more_cases joins item) (turn_branch joins item h) fs

pub conjunction_from_exact : (literal : Grammar Property) → Exact literal → (f : Property) → Exact (conjunction_from literal f)
conjunction_from_exact literal h f = mapped_exact (joined all_of) (turns (more_cases is_and literal) (f ∷ [])) (mores_exact is_and literal h (f ∷ []))

pub conjunction_exact : (literal : Grammar Property) → Exact literal → Exact (conjunction_over literal)
conjunction_exact literal h = then_exact literal (conjunction_from literal) h (conjunction_from_exact literal h)

pub formula_from_exact : (conjunction : Grammar Property) → Exact conjunction → (f : Property) → Exact (formula_from conjunction f)
formula_from_exact conjunction h f = mapped_exact (joined some_of) (turns (more_cases is_or conjunction) (f ∷ [])) (mores_exact is_or conjunction h (f ∷ []))

pub formula_exact_over : (literal : Grammar Property) → Exact literal → Exact (formula_over literal)
formula_exact_over literal h = then_exact (conjunction_over literal) (formula_from (conjunction_over literal)) (conjunction_exact literal h) (formula_from_exact (conjunction_over literal) (conjunction_exact literal h))

-- ---- a plain formula is no sum

no_relation : (a : Expression) (sum : Grammar Expression) (o : Option Relation) → o ≡ None → OfBranch (relation_by a sum o) → ⊥
no_relation a sum None e d = d
no_relation a sum (Some r) e d = absurd cc

-- after the token of a relation no sum goes on
pub related_goes : (a : Expression) (sum : Grammar Expression) (m : Mark) → OfBranch (at_kind (related_by a sum) m) → sum_goes (Some m) ≡ false
related_goes a sum (plain (fixed kinds.Star)) d = absurd (no_relation a sum (relation_of kinds.Star) refl d)
related_goes a sum (plain (fixed kinds.Plus)) d = absurd (no_relation a sum (relation_of kinds.Plus) refl d)
related_goes a sum (plain (fixed kinds.Minus)) d = absurd (no_relation a sum (relation_of kinds.Minus) refl d)
related_goes a sum (plain (fixed kind)) d = refl
related_goes a sum _ d = absurd d

-- a token of a relation is no bracket
pub related_right : (a : Expression) (sum : Grammar Expression) (m : Mark) → OfBranch (at_kind (related_by a sum) m) → is_right_mark m ≡ false
related_right a sum (plain (fixed kinds.RightRound)) d = absurd (no_relation a sum (relation_of kinds.RightRound) refl d)
related_right a sum (plain (fixed kind)) d = refl
related_right a sum _ d = absurd d
