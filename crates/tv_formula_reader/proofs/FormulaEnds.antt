-- Where a formula goes on, and where it ends.
use Rattle.std.proofs.Common.{◌≡◌, ℕ, zero, suc, Bool, true, false, List, [], ◌∷◌, Option, Some, None, refl, ◌∙◌}
use Rattle.tv_language.specs.declared.token.TokenKind.{TokenKind}
use Rattle.tv_language.specs.declared.token.TokenKind.TheVariants as kinds
use Rattle.tv_program.specs.declared.tree.Relation.{Relation}
use Rattle.tv_program.specs.Trees.{Expression}
use Rattle.tv_program.specs.Words.{Word}
use Rattle.tv_language.specs.Symbols.{fixed, label}
use Rattle.tv_language.specs.Conditions.{relation_of}
use Rattle.tv_formula.specs.Properties.{Property, at, fix}
use Rattle.tv_grammar.specs.Langs.{then, mapped, headed, OfBranch, goes_at, is_go, branch_goes_on}
use Rattle.tv_grammar.specs.Exact.{Outside, Ends, nowhere}
use Rattle.tv_grammar.proofs.OutsideLemmas.{BranchOutside, outside_ends, mapped_outside, then_outside, turns_first, turns_outside}
use Rattle.tv_reading.specs.Marks.{Kind, Syntax, Wide, UnknownName, Mark, plain, refused}
use Rattle.tv_reading.specs.SumGrammar.{sum_goes}
use Rattle.tv_reading.proofs.SumLemmas.{sum_goes_on}
use Rattle.tv_formula_reader.specs.Seen.{Seen}
use Rattle.tv_formula_reader.specs.Choice.{Grammar, Behind, mark_at}
use Rattle.tv_formula_reader.specs.declared.operators.Operator.{Operator}
use Rattle.tv_formula_reader.specs.declared.operators.Operator.TheVariants.{One, Two}
use Rattle.tv_formula_reader.specs.Operators.{operator_of, applied}
use Rattle.tv_reading.specs.SumGrammar.{refuse_by}
use Rattle.tv_reading.specs.ConditionGrammar.{is_and, is_or}
use Rattle.tv_formula_reader.specs.FormulaGrammar.{at_kind, at_end, end_by, summed, relation_by, related_by, related, comparison, more_by, more_cases, conjunction_from, conjunction_over, formula_from, formula_over, plain_at, literal_at, formula_at, text_at, plain_over, plain_by, Under, ground, level, closed, close_by, opened, open_by, place, label_cases, word_by, argument, operator_by, behind_square, square_by}
use Rattle.tv_formula_reader.proofs.ChoiceLemmas.{either_outside}
use Rattle.tv_formula_reader.proofs.FormulaLemmas.{related_goes}

abbrev Set : Type 0
Set = Option Seen → Bool

-- ---- the tokens at which a sum, a conjunction and a formula may go on

abbrev goes_sum : Set
goes_sum t = sum_goes (mark_at t)

abbrev and_mark : Option Mark → Bool
and_mark (Some (plain (fixed kinds.And))) = true
and_mark m = sum_goes m

abbrev or_mark : Option Mark → Bool
or_mark (Some (plain (fixed kinds.Or))) = true
or_mark m = and_mark m

abbrev goes_and : Set
goes_and t = and_mark (mark_at t)

abbrev pub goes_or : Set
goes_or t = or_mark (mark_at t)

not_sum : (m : Option Mark) → and_mark m ≡ false → sum_goes m ≡ false
not_sum (Some (plain (fixed kinds.And))) e = refl
not_sum m e = e

not_and : (m : Option Mark) → or_mark m ≡ false → and_mark m ≡ false
not_and (Some (plain (fixed kinds.Or))) e = refl
not_and m e = e

-- a grammar that begins with a token and ends for good
kind_outside : {X : Type 0} (f : TokenKind → Behind X) (g : Set) → ((kind : TokenKind) → BranchOutside (f kind) g) → (m : Mark) → BranchOutside (at_kind f m) g
kind_outside f g h (plain (fixed kind)) d t e = h kind d t e
kind_outside f g h _ d t e = absurd d

closed_outside : {X : Type 0} (x : X) → Outside (closed x) nowhere
closed_outside x d t e = by d.0.mark d.1
  where
    by : (m : Mark) (b : OfBranch (at_kind (close_by x) m)) → branch_goes_on (at_kind (close_by x) m) b t ≡ false
    by (plain (fixed kinds.RightRound)) b = refl
    by _ b = absurd b

-- the first token of what follows is no token of the set
closed_first : {X : Type 0} (g : Option Mark → Bool) → g (Some (plain (fixed kinds.RightRound))) ≡ false → (x : X) (d : (closed x).Of) → g (Some d.0.mark) ≡ false
closed_first g e x d = by d.0.mark d.1
  where
    by : (m : Mark) (b : OfBranch (at_kind (close_by x) m)) → g (Some m) ≡ false
    by (plain (fixed kinds.RightRound)) b = e
    by _ b = absurd b

end_first : {X : Type 0} (g : Option Mark → Bool) → g (Some (plain (fixed kinds.End))) ≡ false → (x : X) (d : (at_end x).Of) → g (Some d.0.mark) ≡ false
end_first g e x d = by d.0.mark d.1
  where
    by : (m : Mark) (b : OfBranch (at_kind (end_by x) m)) → g (Some m) ≡ false
    by (plain (fixed kinds.End)) b = e
    by _ b = absurd b

end_outside : {X : Type 0} (x : X) → Outside (at_end x) nowhere
end_outside x d t e = by d.0.mark d.1
  where
    by : (m : Mark) (b : OfBranch (at_kind (end_by x) m)) → branch_goes_on (at_kind (end_by x) m) b t ≡ false
    by (plain (fixed kinds.End)) b = refl
    by _ b = absurd b

-- ---- a comparison

summed_outside : (kept : Kind → Bool) (n : ℕ) → Outside (summed kept n) goes_sum
summed_outside kept n d t e = sum_goes_on kept n true d.of (mark_at t) ∙ e

related_branch : (a : Expression) (sum : Grammar Expression) → Outside sum goes_sum → (kind : TokenKind) → BranchOutside (related_by a sum kind) goes_sum
related_branch a sum h kind = by (relation_of kind)
  where
    by : (o : Option Relation) → BranchOutside (relation_by a sum o) goes_sum
    by None d t e = absurd d
    by (Some r) d t e = h d.0 t e

comparison_outside : (kept : Kind → Bool) (n : ℕ) → Outside (comparison kept n) goes_sum
comparison_outside kept n = then_outside (summed kept n) (related (summed kept n)) goes_sum goes_sum (summed_outside kept n)
    (λ a d t e. kind_outside (related_by a (summed kept n)) goes_sum (related_branch a (summed kept n) (summed_outside kept n)) d.0.mark d.1 t e)
    (λ a d t e. related_goes a (summed kept n) d.0.mark d.1)

-- ---- plain formulas end for good

open_outside : {X : Type 0} (l : Grammar X) → Outside l nowhere → Outside (opened l) nowhere
open_outside l h d t e = by d.0.mark d.1
  where
    by : (m : Mark) (b : OfBranch (at_kind (open_by l) m)) → branch_goes_on (at_kind (open_by l) m) b t ≡ false
    by (plain (fixed kinds.LeftRound)) b = h b t refl
    by _ b = absurd b

square_outside : {X : Type 0} (l : Grammar X) → Outside l nowhere → Outside (behind_square l) nowhere
square_outside l h d t e = by d.0.mark d.1
  where
    by : (m : Mark) (b : OfBranch (at_kind (square_by l) m)) → branch_goes_on (at_kind (square_by l) m) b t ≡ false
    by (plain (fixed kinds.RightSquare)) b = h b t refl
    by _ b = absurd b

refuse_outside : {X : Type 0} (b : Bool) (k : Kind) (l : Grammar X) → Outside l nowhere → BranchOutside (refuse_by b k l) nowhere
refuse_outside true k l h d t e = absurd d
refuse_outside false k l h d t e = h d t e

label_outside : (kept : Kind → Bool) (m : Mark) → BranchOutside (label_cases kept m) nowhere
label_outside kept (plain (label l)) d t e = closed_outside (at l) d t e
label_outside kept (plain (fixed kinds.Wide)) d t e = refuse_outside (kept Wide) Wide (closed (at 0)) (closed_outside (at 0)) d t e
label_outside kept (refused k kinds.Name) d t e = refuse_outside (kept UnknownName) UnknownName (closed (at 0)) (closed_outside (at 0)) d t e
label_outside kept _ d t e = absurd d

place_outside : (kept : Kind → Bool) → Outside (place kept) nowhere
place_outside kept = open_outside (headed Syntax (λ t. label_cases kept t.label)) (λ d t e. label_outside kept d.0.label d.1 t e)

word_outside : (kept : Kind → Bool) (a b : Bool) → BranchOutside (word_by kept a b) nowhere
word_outside kept true b d t e = place_outside kept d t e
word_outside kept false true d t e = refl
word_outside kept false false d t e = absurd d

closing_outside : (formula : Grammar Property) → Outside formula goes_or → Outside (then formula closed) nowhere
closing_outside formula h = then_outside formula closed goes_or nowhere h (λ x. closed_outside x) (λ x d t e. closed_first or_mark refl x d)

argument_outside : (formula : Grammar Property) → Outside formula goes_or → Outside (argument formula) nowhere
argument_outside formula h = open_outside (then formula closed) (closing_outside formula h)

operator_outside : (formula : Grammar Property) → Outside formula goes_or → (o : Option Operator) → BranchOutside (operator_by formula o) nowhere
operator_outside formula h None d t e = absurd d
operator_outside formula h (Some (One p k)) d t e = square_outside (mapped (applied p k) (argument formula)) (mapped_outside (applied p k) (argument formula) nowhere (argument_outside formula h)) d t e
operator_outside formula h (Some (Two p s)) d t e =
    square_outside (then (argument formula) (λ f. mapped (fix p s f) (argument formula)))
    (then_outside (argument formula) (λ f. mapped (fix p s f) (argument formula)) nowhere nowhere (argument_outside formula h) (λ f. mapped_outside (fix p s f) (argument formula) nowhere (argument_outside formula h)) (λ f c u i. refl)) d t e

abbrev OutsideUnder : Under → Type 0
OutsideUnder ground = Unit {0}
OutsideUnder (level formula plainly) = Outside formula goes_or × Outside plainly nowhere

plain_branch : (kept : Kind → Bool) (u : Under) → OutsideUnder u → (w : Word) (kind : TokenKind) → BranchOutside (plain_by kept u w kind) nowhere
plain_branch kept ground h w kinds.True d t e = refl
plain_branch kept ground h w kinds.False d t e = refl
plain_branch kept ground h w kinds.Name d t e = word_outside kept _ _ d t e
plain_branch kept (level formula plainly) h w kinds.True d t e = refl
plain_branch kept (level formula plainly) h w kinds.False d t e = refl
plain_branch kept (level formula plainly) h w kinds.Name d t e = word_outside kept _ _ d t e
plain_branch kept ground h w kinds.Not d t e = absurd d
plain_branch kept ground h w kinds.LeftRound d t e = absurd d
plain_branch kept ground h w kinds.LeftSquare d t e = absurd d
plain_branch kept (level formula plainly) h w kinds.Not d t e = h.1 d.0 t e
plain_branch kept (level formula plainly) h w kinds.LeftRound d t e = closing_outside formula h.0 d t e
plain_branch kept (level formula plainly) h w kinds.LeftSquare d t e = operator_outside formula h.0 (operator_of d.0.word) d.1 t e
plain_branch kept ground h w _ d t e = absurd d
plain_branch kept (level formula plainly) h w _ d t e = absurd d

plain_outside_over : (kept : Kind → Bool) (u : Under) → OutsideUnder u → Outside (plain_over kept u) nowhere
plain_outside_over kept u h d t e = kind_outside (plain_by kept u d.0.word) nowhere (plain_branch kept u h d.0.word) d.0.mark d.1 t e

-- ---- joined by "&&" or "||"

and_starts : (item : Grammar Property) (fs : List Property) (t : Option Seen) → goes_and t ≡ false → goes_at (more_cases is_and item fs) t ≡ false
and_starts item fs None e = refl
and_starts item fs (Some t) e = by t.mark e
  where
    by : (m : Mark) → and_mark (Some m) ≡ false → is_go (at_kind (λ kind. more_by item fs (is_and kind)) m) ≡ false
    by (plain (fixed kinds.And)) i = absurd cc
    by (plain (fixed kind)) i = refl
    by _ i = refl

or_starts : (item : Grammar Property) (fs : List Property) (t : Option Seen) → goes_or t ≡ false → goes_at (more_cases is_or item fs) t ≡ false
or_starts item fs None e = refl
or_starts item fs (Some t) e = by t.mark e
  where
    by : (m : Mark) → or_mark (Some m) ≡ false → is_go (at_kind (λ kind. more_by item fs (is_or kind)) m) ≡ false
    by (plain (fixed kinds.Or)) i = absurd cc
    by (plain (fixed kind)) i = refl
    by _ i = refl

more_outside : (item : Grammar Property) (g : Set) → Outside item g → (fs : List Property) (b : Bool) → BranchOutside (more_by item fs b) g
more_outside item g h fs false d t e = absurd d
more_outside item g h fs true d t e = h d.0 t e

turn_outside : (joins : TokenKind → Bool) (item : Grammar Property) (g : Set) → Outside item g → (fs : List Property) (t : Seen) → BranchOutside (more_cases joins item fs t) g
turn_outside joins item g h fs t = kind_outside (λ kind. more_by item fs (joins kind)) g (λ kind. more_outside item g h fs (joins kind)) t.mark

and_split : (item : Grammar Property) (fs : List Property) (t : Seen) → OfBranch (more_cases is_and item fs t) → goes_sum (Some t) ≡ false
and_split item fs t d = by t.mark d
  where
    by : (m : Mark) → OfBranch (at_kind (λ kind. more_by item fs (is_and kind)) m) → sum_goes (Some m) ≡ false
    by (plain (fixed kinds.And)) i = refl
    by (plain (fixed kind)) i = absurd i
    by _ i = absurd i

or_split : (item : Grammar Property) (fs : List Property) (t : Seen) → OfBranch (more_cases is_or item fs t) → goes_and (Some t) ≡ false
or_split item fs t d = by t.mark d
  where
    by : (m : Mark) → OfBranch (at_kind (λ kind. more_by item fs (is_or kind)) m) → and_mark (Some m) ≡ false
    by (plain (fixed kinds.Or)) i = refl
    by (plain (fixed kind)) i = absurd i
    by _ i = absurd i

module _ (literal : Grammar Property) (h : Outside literal goes_sum) where
  conjunction_from_outside : (f : Property) → Outside (conjunction_from literal f) goes_and
  conjunction_from_outside f d t e = turns_outside (more_cases is_and literal) goes_sum (and_split literal) goes_and (and_starts literal) (turn_outside is_and literal goes_sum h) (λ u i. not_sum (mark_at u) i) (f ∷ []) d.0 t e

  conjunction_outside : Outside (conjunction_over literal) goes_and
  conjunction_outside = then_outside literal (conjunction_from literal) goes_sum goes_and h conjunction_from_outside (λ f d t e. turns_first (more_cases is_and literal) goes_sum (and_split literal) (f ∷ []) d.0 [] t (not_sum (mark_at t) e))

  formula_from_outside : (f : Property) → Outside (formula_from (conjunction_over literal) f) goes_or
  formula_from_outside f d t e = turns_outside (more_cases is_or (conjunction_over literal)) goes_and (or_split (conjunction_over literal)) goes_or (or_starts (conjunction_over literal)) (turn_outside is_or (conjunction_over literal) goes_and conjunction_outside) (λ u i. not_and (mark_at u) i) (f ∷ []) d.0 t e

  formula_outside_over : Outside (formula_over literal) goes_or
  formula_outside_over = then_outside (conjunction_over literal) (formula_from (conjunction_over literal)) goes_and goes_or conjunction_outside formula_from_outside (λ f d t e. turns_first (more_cases is_or (conjunction_over literal)) goes_and (or_split (conjunction_over literal)) (f ∷ []) d.0 [] t (not_and (mark_at t) e))

-- ---- by levels

literal_outside : (kept : Kind → Bool) (n : ℕ) → Outside (plain_at kept n) nowhere → Outside (literal_at kept n) goes_sum
literal_outside kept n h = either_outside (comparison kept n) (plain_at kept n) goes_sum (comparison_outside kept n) (λ d t e. h d t refl)

plain_outside : (kept : Kind → Bool) (n : ℕ) → Outside (plain_at kept n) nowhere
unfolding plain_at
plain_outside kept zero = plain_outside_over kept ground tt
plain_outside kept (suc n) =
    let h = plain_outside kept n in
    plain_outside_over kept (level (formula_at kept n) (plain_at kept n)) (formula_outside_over (literal_at kept n) (literal_outside kept n h), h)

pub formula_outside : (kept : Kind → Bool) (n : ℕ) → Outside (formula_at kept n) goes_or
formula_outside kept n = formula_outside_over (literal_at kept n) (literal_outside kept n (plain_outside kept n))

pub text_outside : (kept : Kind → Bool) (n : ℕ) → Outside (text_at kept n) nowhere
text_outside kept n = then_outside (formula_at kept n) at_end goes_or nowhere (formula_outside kept n) (λ f. end_outside f) (λ f d t e. end_first or_mark refl f d)

pub text_ends : (kept : Kind → Bool) (n : ℕ) → Ends (text_at kept n)
text_ends kept n = outside_ends (text_at kept n) nowhere (text_outside kept n) refl
