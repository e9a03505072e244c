-- No name, no sum and no condition is refused for a second START.
use Rattle.std.proofs.Common.{◌≡◌, ℕ, ◌^◌, Bool, true, false, List, [], ◌∷◌, drop, Option, Some, None, cond, length, subst}
use Rattle.std.specs.Prelude.{nat_lt, ◌≢◌}
use Rattle.tv_language.specs.declared.token.TokenKind.{TokenKind}
use Rattle.tv_language.specs.declared.token.TokenKind.TheVariants as kinds
use Rattle.tv_language.specs.declared.token.Token.{Token}
use Rattle.tv_language.specs.Numbers.{value_of_digits}
use Rattle.tv_language.specs.Symbols.{number, name, drawn, fixed, lexeme}
use Rattle.tv_program.specs.Words.{Word, number_of}
use Rattle.tv_grammar.specs.Reads.{fault, next}
use Rattle.tv_grammar.specs.Faults.{Kinded}
use Rattle.tv_reading.specs.Marks as marks
use Rattle.tv_reading.specs.Marks.{Mark, plain, refused, is_formula_word, new_name, known_name, number_mark, draw_mark, mark_by, marks_from, Stand, left}
use Rattle.tv_reading.specs.SumGrammar.{Grammar}
use Rattle.tv_reading.specs.Answers.{kind_of, Unless}
use Rattle.tv_reading.specs.declared.reason.Reason.{Reason}
use Rattle.tv_reading.specs.declared.reason.Reason.TheVariants as reasons
use Rattle.tv_reading.proofs.KindsOfFaults.{refusal, Marked}

abbrev pub NoStart : Option Mark → Type 0
NoStart t = refusal t ≡ Some marks.TwoStarts → ⊥

new_start : (o : Option ℕ) (count : ℕ) → NoStart (Some (new_name o count))
new_start (Some k) count = λ e. cc
new_start None count = by (nat_lt count 512)
  where
    by : (b : Bool) → NoStart (Some (cond b (plain (name count)) (refused marks.TooMany kinds.Name)))
    by true e = cc
    by false e = cc

known_start : (b : Bool) (o : Option ℕ) → NoStart (Some (known_name b o))
known_start true o e = cc
known_start false None e = cc
known_start false (Some k) e = cc

number_start : (n : ℕ) → NoStart (Some (number_mark n))
number_start n = by (nat_lt n (2 ^ 62))
  where
    by : (b : Bool) → NoStart (Some (cond b (plain (number n)) (plain (fixed kinds.Wide))))
    by true e = cc
    by false e = cc

draw_start : (grows : Bool) (draws : ℕ) → NoStart (Some (draw_mark grows draws))
draw_start false draws = λ e. cc
draw_start true draws = by (nat_lt draws 64)
  where
    by : (b : Bool) → NoStart (Some (cond b (plain (drawn draws)) (refused marks.TooMany kinds.Nondet)))
    by true e = cc
    by false e = cc

mark_start : (grows : Bool) (names : List Word) (draws : ℕ) (kind : TokenKind) (w : Word) → NoStart (Some (mark_by grows names draws kind w))
mark_start true names draws kinds.Name w = new_start (number_of w names) (length names)
mark_start false names draws kinds.Name w = known_start (is_formula_word w) (number_of w names)
mark_start grows names draws kinds.Number w = number_start (value_of_digits w)
mark_start grows names draws kinds.Nondet w = draw_start grows draws
mark_start grows names draws kind w = λ e. cc

pub marks_start : (text : List ℕ) (grows : Bool) (names : List Word) (draws : ℕ) (ts : List Token) → NoStart (next (marks_from text grows names draws ts))
unfolding marks_from
marks_start text grows names draws [] e = cc
marks_start text grows names draws (t ∷ ts) e = mark_start grows names draws t.kind (lexeme text t).word e

pub no_start : {X : Type 0} (l : Grammar X) → Kinded Marked l → (ts : List Mark) (now : Stand) (e : Reason) → Unless e (l.read ts ≡ fault (kind_of e) (left now)) → e ≢ reasons.TwoStarts
no_start l h ts now e reads is =
    let reads : l.read ts ≡ fault marks.TwoStarts (left now) = subst (λ (r : Reason). Unless r (l.read ts ≡ fault (kind_of r) (left now))) is reads in
    marks_start now.text now.grows now.names now.draws (drop now.at now.tokens) (h.kind ts marks.TwoStarts (left now) reads)
