-- No formula is refused for a second START, and nothing in one is too many.
use Rattle.std.proofs.Common.{◌≡◌, inl, inr, ℕ, zero, suc, Bool, true, false, List, [], ◌∷◌, ◌++◌, length, Option, Some, None, cond, Result, Ok, Err, refl, sym, ap, subst, ◌∙◌}
use Rattle.std.specs.Prelude.{nat_lt, ◌≢◌}
use Rattle.tv_language.specs.declared.token.TokenKind.{TokenKind}
use Rattle.tv_language.specs.declared.token.TokenKind.TheVariants as kinds
use Rattle.tv_language.specs.declared.token.Token.{Token}
use Rattle.tv_language.specs.Symbols.{label, fixed, Vocabulary}
use Rattle.tv_language.specs.Conditions.{relation_of}
use Rattle.tv_program.specs.declared.tree.Relation.{Relation}
use Rattle.tv_program.specs.Trees.{Expression}
use Rattle.tv_program.specs.Words.{Word}
use Rattle.tv_formula.specs.Properties.{Property, truth, compare, at, term, negated, all_of, some_of, fix}
use Rattle.tv_grammar.specs.Reads.{Fault, faulty, fault, next}
use Rattle.tv_grammar.specs.Langs.{then, mapped, headed, turns}
use Rattle.tv_grammar.specs.Exact.{Exact}
use Rattle.tv_grammar.specs.Faults.{Kinded, KindedBranch, KindedTurn}
use Rattle.tv_grammar.proofs.KindLemmas.{unit_kinded, then_kinded, mapped_kinded, headed_kinded, turns_kinded}
use Rattle.tv_reading.specs.Marks as marking
use Rattle.tv_reading.specs.Marks.{Kind, Syntax, Mark, plain, refused}
use Rattle.tv_reading.specs.SumGrammar as sums
use Rattle.tv_reading.specs.SumGrammar.{every, sum_at}
use Rattle.tv_reading.specs.ConditionGrammar.{is_and, is_or}
use Rattle.tv_reading.specs.Answers.{kind_of, Unless}
use Rattle.tv_reading.specs.declared.reason.Reason.{Reason}
use Rattle.tv_reading.specs.declared.reason.Reason.TheVariants as reasons
use Rattle.tv_reading.proofs.SumLemmas.{sum_exact}
use Rattle.tv_reading.proofs.KindsOfFaults.{refusal, Marked, sums_kinded}
use Rattle.tv_reading.proofs.RoomLemmas.{HasRoom, marks_room}
use Rattle.tv_reading.proofs.StartLemmas.{NoStart, marks_start}
use Rattle.tv_formula_reader.specs.Seen.{Seen, seen_all, marks}
use Rattle.tv_formula_reader.specs.Choice.{Grammar, Behind, mark_at, last, lifted_read, lifted, or_further, either_read, either}
use Rattle.tv_formula_reader.specs.declared.operators.Operator.{Operator}
use Rattle.tv_formula_reader.specs.declared.operators.Operator.TheVariants.{One, Two}
use Rattle.tv_formula_reader.specs.Operators.{operator_of, applied}
use Rattle.tv_formula_reader.specs.FormulaTexts.{joined}
use Rattle.tv_formula_reader.specs.FormulaGrammar.{at_kind, open_by, close_by, square_by, end_by, opened, closed, behind_square, at_end, summed, relation_by, related_by, related, comparison, label_cases, labelled, place, word_by, argument, operator_by, operated, Under, ground, level, plain_by, plain_over, more_by, more_cases, conjunction_from, conjunction_over, formula_from, formula_over, plain_at, literal_at, formula_at, text_at}
use Rattle.tv_formula_reader.proofs.ChoiceLemmas.{next-marks, parted, last_back, is_other, other_kept}
use Rattle.tv_formula_reader.proofs.SumRead.{marks_all}

-- a fault of one of these kinds comes only at a mark of it
abbrev Told : Kind → Option Seen → Type 0
Told marking.TwoStarts t = refusal (mark_at t) ≡ Some marking.TwoStarts
Told marking.TooMany t = refusal (mark_at t) ≡ Some marking.TooMany
Told k t = Unit {0}

told : (k : Kind) (t : Option Seen) → Marked k (mark_at t) → Told k t
told marking.TwoStarts t h = h
told marking.TooMany t h = h
told k t h = tt

-- ---- a grammar of marks, and two grammars

module _ {X : Type 0} (l : sums.Grammar X) (exact : Exact l) (h : Kinded Marked l) where
  lifted_kind : (ts : List Seen) (k : Kind) (r : List Seen) (out : Result (X × List Mark) (Fault Mark Kind)) → l.read (marks ts) ≡ out → lifted_read ts out ≡ fault k r → Told k (next r)
  lifted_kind ts k r (Ok y) is e = absurd cc
  lifted_kind ts k r (Err (faulty j s)) is e =
      let kind : j ≡ k = cc in
      let left : last (length s) ts ≡ r = cc in
      let f = exact.least (marks ts) j s is in
      let p = parted ts f.before s f.parts in
      let back : r ≡ p.back = sym left ∙ last_back ts f.before s p in
      let same : mark_at (next r) ≡ next s = ap (λ (us : List Seen). mark_at (next us)) back ∙ next-marks p.back ∙ ap next p.backs in
      told k (next r) (subst (λ (t : Option Mark). Marked k t) (sym same) (subst (λ (i : Kind). Marked i (next s)) kind (h.kind (marks ts) j s is)))

  lifted_kinded : Kinded Told (lifted l)
  lifted_kinded = record { kind = λ ts k r e. lifted_kind ts k r (l.read (marks ts)) refl e }

module _ {X : Type 0} (a b : Grammar X) (h : Kinded Told a) (i : Kinded Told b) where
  further_kind : (ts : List Seen) (k : Kind) (r s : List Seen) (out : Result (X × List Seen) (Fault Seen Kind)) → b.read ts ≡ out → or_further s out ≡ fault k r → Told k (next r)
  further_kind ts k r s (Ok y) is e = absurd cc
  further_kind ts k r s (Err (faulty j u)) is e = by (nat_lt (length s) (length u)) e
    where
      by : (t : Bool) → cond t (fault {X = X × List Seen} Syntax s) (fault j u) ≡ fault k r → Told k (next r)
      by true f = let kind : Syntax ≡ k = cc in subst (λ (q : Kind). Told q (next r)) kind tt
      by false f = i.kind ts k r (is ∙ f)

  either_kind : (ts : List Seen) (k : Kind) (r : List Seen) (out : Result (X × List Seen) (Fault Seen Kind)) → a.read ts ≡ out → either_read out (b.read ts) ≡ fault k r → Told k (next r)
  either_kind ts k r (Ok y) is e = absurd cc
  either_kind ts k r (Err (faulty j s)) is e = elim (is_other j) [
    | inl same ↦ further_kind ts k r s (b.read ts) refl (subst (λ (q : Kind). either_read (fault q s) (b.read ts) ≡ fault k r) same e)
    | inr other ↦ h.kind ts k r (is ∙ (sym (other_kept j other s (b.read ts)) ∙ e))
  ]

  either_kinded : Kinded Told (either a b)
  either_kinded = record { kind = λ ts k r e. either_kind ts k r (a.read ts) refl e }

-- ---- one token

kind_branch : {X : Type 0} (f : TokenKind → Behind X) (t : Seen) → ((kind : TokenKind) → KindedBranch Told t (f kind)) → (m : Mark) → KindedBranch Told t (at_kind f m)
kind_branch f t h (plain (fixed kind)) = h kind
kind_branch f t h _ = tt

kind_headed : {X : Type 0} (f : Seen → TokenKind → Behind X) → ((t : Seen) (kind : TokenKind) → KindedBranch Told t (f t kind)) → Kinded Told (headed Syntax (λ t. at_kind (f t) t.mark))
kind_headed f h = headed_kinded Told Syntax (λ t. at_kind (f t) t.mark) tt (λ t. kind_branch (f t) t (h t) t.mark)

open_branch : {X : Type 0} (l : Grammar X) → Kinded Told l → (t : Seen) (kind : TokenKind) → KindedBranch Told t (open_by l kind)
open_branch l h t kinds.LeftRound = h
open_branch l h t kind = tt

opened_kinded : {X : Type 0} (l : Grammar X) → Kinded Told l → Kinded Told (opened l)
opened_kinded l h = kind_headed (λ t kind. open_by l kind) (open_branch l h)

close_branch : {X : Type 0} (x : X) (t : Seen) (kind : TokenKind) → KindedBranch Told t (close_by x kind)
close_branch x t kinds.RightRound = unit_kinded Told x
close_branch x t kind = tt

closed_kinded : {X : Type 0} (x : X) → Kinded Told (closed x)
closed_kinded x = kind_headed (λ t kind. close_by x kind) (close_branch x)

square_branch : {X : Type 0} (l : Grammar X) → Kinded Told l → (t : Seen) (kind : TokenKind) → KindedBranch Told t (square_by l kind)
square_branch l h t kinds.RightSquare = h
square_branch l h t kind = tt

square_kinded : {X : Type 0} (l : Grammar X) → Kinded Told l → Kinded Told (behind_square l)
square_kinded l h = kind_headed (λ t kind. square_by l kind) (square_branch l h)

end_branch : {X : Type 0} (x : X) (t : Seen) (kind : TokenKind) → KindedBranch Told t (end_by x kind)
end_branch x t kinds.End = unit_kinded Told x
end_branch x t kind = tt

end_kinded : {X : Type 0} (x : X) → Kinded Told (at_end x)
end_kinded x = kind_headed (λ t kind. end_by x kind) (end_branch x)

-- ---- a comparison

summed_kinded : (n : ℕ) → Kinded Told (summed every n)
summed_kinded n = lifted_kinded (sum_at every n true) (sum_exact every n true) (sums_kinded n true)

relation_branch : (a : Expression) (sum : Grammar Expression) → Kinded Told sum → (t : Seen) (o : Option Relation) → KindedBranch Told t (relation_by a sum o)
relation_branch a sum h t None = tt
relation_branch a sum h t (Some r) = mapped_kinded Told (compare r a) sum h

related_kinded : (sum : Grammar Expression) → Kinded Told sum → (a : Expression) → Kinded Told (related sum a)
related_kinded sum h a = kind_headed (λ t kind. related_by a sum kind) (λ t kind. relation_branch a sum h t (relation_of kind))

comparison_kinded : (n : ℕ) → Kinded Told (comparison every n)
comparison_kinded n = then_kinded Told (summed every n) (related (summed every n)) (summed_kinded n) (related_kinded (summed every n) (summed_kinded n))

-- ---- plain formulas

label_branch : (t : Seen) (m : Mark) → KindedBranch Told t (label_cases every m)
label_branch t (plain (label l)) = closed_kinded (at l)
label_branch t (plain (fixed kinds.Wide)) = tt
label_branch t (refused k kinds.Name) = tt
label_branch t _ = tt

place_kinded : Kinded Told (place every)
place_kinded = opened_kinded (labelled every) (headed_kinded Told Syntax (λ t. label_cases every t.label) tt (λ t. label_branch t t.label))

word_branch : (t : Seen) (is_at is_term : Bool) → KindedBranch Told t (word_by every is_at is_term)
word_branch t true is_term = place_kinded
word_branch t false true = unit_kinded Told term
word_branch t false false = tt

closing_kinded : (l : Grammar Property) → Kinded Told l → Kinded Told (then l closed)
closing_kinded l h = then_kinded Told l closed h closed_kinded

argument_kinded : (l : Grammar Property) → Kinded Told l → Kinded Told (argument l)
argument_kinded l h = opened_kinded (then l closed) (closing_kinded l h)

operator_branch : (l : Grammar Property) → Kinded Told l → (t : Seen) (o : Option Operator) → KindedBranch Told t (operator_by l o)
operator_branch l h t None = tt
operator_branch l h t (Some (One p k)) = square_kinded (mapped (applied p k) (argument l)) (mapped_kinded Told (applied p k) (argument l) (argument_kinded l h))
operator_branch l h t (Some (Two p s)) = square_kinded (then (argument l) (λ f. mapped (fix p s f) (argument l))) (then_kinded Told (argument l) (λ f. mapped (fix p s f) (argument l)) (argument_kinded l h) (λ f. mapped_kinded Told (fix p s f) (argument l) (argument_kinded l h)))

operated_kinded : (l : Grammar Property) → Kinded Told l → Kinded Told (operated l)
operated_kinded l h = headed_kinded Told Syntax (λ t. operator_by l (operator_of t.word)) tt (λ t. operator_branch l h t (operator_of t.word))

abbrev KindedUnder : Under → Type 0
KindedUnder ground = Unit {0}
KindedUnder (level f p) = Kinded Told f × Kinded Told p

plain_branch : (u : Under) → KindedUnder u → (w : Word) (t : Seen) (kind : TokenKind) → KindedBranch Told t (plain_by every u w kind)
plain_branch ground h w t kinds.True = unit_kinded Told (truth true)
plain_branch ground h w t kinds.False = unit_kinded Told (truth false)
plain_branch ground h w t kinds.Name = word_branch t _ _
plain_branch ground h w t kinds.Not = tt
plain_branch ground h w t kinds.LeftRound = tt
plain_branch ground h w t kinds.LeftSquare = tt
plain_branch (level f p) h w t kinds.True = unit_kinded Told (truth true)
plain_branch (level f p) h w t kinds.False = unit_kinded Told (truth false)
plain_branch (level f p) h w t kinds.Name = word_branch t _ _
plain_branch (level f p) h w t kinds.Not = mapped_kinded Told negated p h.1
plain_branch (level f p) h w t kinds.LeftRound = closing_kinded f h.0
plain_branch (level f p) h w t kinds.LeftSquare = operated_kinded f h.0
plain_branch ground h w t kind = tt
plain_branch (level f p) h w t kind = tt

plain_kinded_over : (u : Under) → KindedUnder u → Kinded Told (plain_over every u)
plain_kinded_over u h = kind_headed (λ t. plain_by every u t.word) (λ t. plain_branch u h t.word t)

-- ---- joined by "&&" or "||"

more_turn : (item : Grammar Property) → Kinded Told item → (fs : List Property) (b : Bool) → KindedTurn Told (more_by item fs b)
more_turn item h fs false = tt
more_turn item h fs true = mapped_kinded Told (λ f. fs ++ f ∷ []) item h

joins_turn : (joins : TokenKind → Bool) (item : Grammar Property) → Kinded Told item → (fs : List Property) (m : Mark) → KindedTurn Told (at_kind (λ kind. more_by item fs (joins kind)) m)
joins_turn joins item h fs (plain (fixed kind)) = more_turn item h fs (joins kind)
joins_turn joins item h fs _ = tt

mores_kinded : (joins : TokenKind → Bool) (item : Grammar Property) → Kinded Told item → (fs : List Property) → Kinded Told (turns (more_cases joins item) fs)
mores_kinded joins item h fs = turns_kinded Told (more_cases joins item) (λ gs t. joins_turn joins item h gs t.mark) fs

conjunction_kinded : (literal : Grammar Property) → Kinded Told literal → Kinded Told (conjunction_over literal)
conjunction_kinded literal h = then_kinded Told literal (conjunction_from literal) h (λ f. mapped_kinded Told (joined all_of) (turns (more_cases is_and literal) (f ∷ [])) (mores_kinded is_and literal h (f ∷ [])))

formula_kinded_over : (literal : Grammar Property) → Kinded Told literal → Kinded Told (formula_over literal)
formula_kinded_over literal h = then_kinded Told (conjunction_over literal) (formula_from (conjunction_over literal)) (conjunction_kinded literal h) (λ f. mapped_kinded Told (joined some_of) (turns (more_cases is_or (conjunction_over literal)) (f ∷ [])) (mores_kinded is_or (conjunction_over literal) (conjunction_kinded literal h) (f ∷ [])))

-- ---- by levels

plain_kinded : (n : ℕ) → Kinded Told (plain_at every n)
unfolding plain_at
plain_kinded zero = plain_kinded_over ground tt
plain_kinded (suc n) = plain_kinded_over (level (formula_over (either (comparison every n) (plain_at every n))) (plain_at every n)) (formula_kinded_over (either (comparison every n) (plain_at every n)) (either_kinded (comparison every n) (plain_at every n) (comparison_kinded n) (plain_kinded n)), plain_kinded n)

formula_kinded : (n : ℕ) → Kinded Told (formula_at every n)
formula_kinded n = formula_kinded_over (literal_at every n) (either_kinded (comparison every n) (plain_at every n) (comparison_kinded n) (plain_kinded n))

text_kinded : (n : ℕ) → Kinded Told (text_at every n)
text_kinded n = then_kinded Told (formula_at every n) at_end (formula_kinded n) end_kinded

-- ---- what is reported

module _ (v : Vocabulary) (text : List ℕ) (list : List Token) (ts : List Seen) (n : ℕ) (e : Reason) (reads : Unless e ((text_at every n).read ts ≡ fault (kind_of e) (seen_all v text list))) where
  first_mark : mark_at (next (seen_all v text list)) ≡ next (marking.marks_from text false v.variables 0 list)
  first_mark = next-marks (seen_all v text list) ∙ ap next (marks_all v text list 0)

  read_as : (r : Reason) → e ≡ r → Unless r ((text_at every n).read ts ≡ fault (kind_of r) (seen_all v text list))
  read_as r is = subst (λ (q : Reason). Unless q ((text_at every n).read ts ≡ fault (kind_of q) (seen_all v text list))) is reads

  pub one_start : e ≢ reasons.TwoStarts
  one_start is = subst NoStart (sym first_mark) (marks_start text false v.variables 0 list) ((text_kinded n).kind ts marking.TwoStarts (seen_all v text list) (read_as reasons.TwoStarts is))

  pub room : e ≢ reasons.TooMany
  room is = subst HasRoom (sym first_mark) (marks_room text v.variables 0 list) ((text_kinded n).kind ts marking.TooMany (seen_all v text list) (read_as reasons.TooMany is))
