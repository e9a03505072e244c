-- Where no name is added, the names stay, and no name and no draw is one too many.
use Rattle.std.proofs.Common.{◌≡◌, ℕ, ◌^◌, Bool, true, false, List, [], ◌∷◌, drop, Option, Some, None, Result, Ok, Err, cond, refl, sym, subst, ◌∙◌}
use Rattle.std.specs.Prelude.{nat_lt, ◌≢◌}
use Rattle.tv_language.specs.declared.token.TokenKind.{TokenKind}
use Rattle.tv_language.specs.declared.token.TokenKind.TheVariants as kinds
use Rattle.tv_language.specs.declared.token.Token.{Token}
use Rattle.tv_language.specs.Numbers.{value_of_digits}
use Rattle.tv_program.specs.Words.{Word, number_of}
use Rattle.tv_program.specs.declared.tree.Expr.{Expr}
use Rattle.tv_program.specs.declared.tree.Cond.{Cond}
use Rattle.tv_program.specs.Views.{expression, condition}
use Rattle.tv_language.specs.Symbols.{number, name, fixed, lexeme}
use Rattle.tv_grammar.specs.Reads.{next}
use Rattle.tv_grammar.specs.Faults.{Kinded, KindedBranch}
use Rattle.tv_reading.specs.Marks.{Syntax, TooMany, Mark, plain, refused, is_formula_word, known_name, number_mark, mark_by, marks_from, names_behind, Stand, left, Passes, stay, pass}
use Rattle.tv_reading.specs.SumGrammar.{Grammar, every, sum_at}
use Rattle.tv_reading.specs.ConditionGrammar.{condition_at}
use Rattle.tv_reading.specs.declared.fault.PartFault.{PartFault}
use Rattle.tv_reading.specs.declared.fault.PartFault.TheVariants as faults
use Rattle.tv_reading.specs.Readings.{IsRead, sum_levels, condition_levels, one_name, name_cases}
use Rattle.tv_grammar.proofs.KindLemmas.{unit_kinded, headed_kinded}
use Rattle.tv_reading.proofs.PassedLemmas.{passes_kept}
use Rattle.tv_reading.proofs.KindsOfFaults.{refusal, Marked, marked, sums_kinded, conditions_kinded}

names_same : (b : Bool) → b ≡ false → (kind : TokenKind) (w : Word) (names : List Word) → names_behind b kind w names ≡ names
names_same false e kinds.Name w names = refl
names_same false e kind w names = refl
names_same true e kind w names = absurd cc

pub passed_names : {s u : Stand} → Passes s u → s.grows ≡ false → u.names ≡ s.names
passed_names (stay s) e = refl
passed_names (pass {s} {u} {t} p f) e = names_same u.grows ((passes_kept s u p).grows ∙ e) t.kind (lexeme u.text t).word u.names ∙ passed_names p e

abbrev pub HasRoom : Option Mark → Type 0
HasRoom t = refusal t ≡ Some TooMany → ⊥

known_room : (b : Bool) (o : Option ℕ) → HasRoom (Some (known_name b o))
known_room true o e = cc
known_room false None e = cc
known_room false (Some k) e = cc

number_room : (n : ℕ) → HasRoom (Some (number_mark n))
number_room n = by (nat_lt n (2 ^ 62))
  where
    by : (b : Bool) → HasRoom (Some (cond b (plain (number n)) (plain (fixed kinds.Wide))))
    by true e = cc
    by false e = cc

mark_room : (names : List Word) (draws : ℕ) (kind : TokenKind) (w : Word) → HasRoom (Some (mark_by false names draws kind w))
mark_room names draws kinds.Name w = known_room (is_formula_word w) (number_of w names)
mark_room names draws kinds.Number w = number_room (value_of_digits w)
mark_room names draws kinds.Nondet w = λ e. cc
mark_room names draws kind w = λ e. cc

pub marks_room : (text : List ℕ) (names : List Word) (draws : ℕ) (ts : List Token) → HasRoom (next (marks_from text false names draws ts))
unfolding marks_from
marks_room text names draws [] e = cc
marks_room text names draws (t ∷ ts) e = mark_room names draws t.kind (lexeme text t).word e

left_room : (s : Stand) → s.grows ≡ false → HasRoom (next (left s))
left_room s e = subst (λ (b : Bool). HasRoom (next (marks_from s.text b s.names s.draws (drop s.at s.tokens)))) (sym e) (marks_room s.text s.names s.draws (drop s.at s.tokens))

module _ {X Y : Type 0} (view : X → Y) (l : Grammar Y) (kinded : Kinded Marked l) (old now : Stand) (passed : Passes old now) (fixed_names : old.grows ≡ false) where
  pub room_by : (result : Result X PartFault) → IsRead view result now (l.read (left old)) → (at : ℕ) → result ≢ Err (faults.TooMany at)
  room_by (Err (faults.TooMany place)) h at e = left_room now ((passes_kept old now passed).grows ∙ fixed_names) (kinded.kind (left old) TooMany (left now) h.0)
  room_by (Ok x) h at e = absurd cc
  room_by (Err f) h at e = absurd cc

name_kinded : (m : Mark) → KindedBranch Marked m (name_cases m)
name_kinded (plain (name v)) = unit_kinded Marked v
name_kinded (refused k kinds.Name) = marked k kinds.Name
name_kinded m = tt

pub names_kinded : Kinded Marked one_name
names_kinded = headed_kinded Marked Syntax name_cases tt name_kinded

pub name_room : (old now : Stand) (result : Result ℕ PartFault) → IsRead (λ v. v) result now (one_name.read (left old)) → Passes old now → old.grows ≡ false → (at : ℕ) → result ≢ Err (faults.TooMany at)
name_room old now result h p g = room_by (λ v. v) one_name names_kinded old now p g result h

pub sum_room : (old now : Stand) (result : Result Expr PartFault) → IsRead expression result now ((sum_at every (sum_levels old) true).read (left old)) → Passes old now → old.grows ≡ false → (at : ℕ) → result ≢ Err (faults.TooMany at)
sum_room old now result h p g = room_by expression (sum_at every (sum_levels old) true) (sums_kinded (sum_levels old) true) old now p g result h

pub condition_room : (old now : Stand) (result : Result Cond PartFault) → IsRead condition result now ((condition_at every (condition_levels old)).read (left old)) → Passes old now → old.grows ≡ false → (at : ℕ) → result ≢ Err (faults.TooMany at)
condition_room old now result h p g = room_by condition (condition_at every (condition_levels old)) (conditions_kinded (condition_levels old)) old now p g result h
