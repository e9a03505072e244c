-- What is reported to the caller of a reading.
use Rattle.std.proofs.Common.{◌≡◌, ℕ, ◌-◌, ◌≤◌, ◌<◌, Bool, true, false, List, [], ◌∷◌, ◌++◌, length, Result, Ok, Err, IfOk, sym, ap, ◌∙◌, arith, IsTrue, cond}
use Rattle.std.proofs.lemmas.List.{append-nil}
use Rattle.std.proofs.lemmas.Bool.{and_parts, ltb-true}
use Rattle.tv_program.specs.declared.tree.Expr.{Expr}
use Rattle.tv_program.specs.declared.tree.Cond.{Cond}
use Rattle.tv_program.specs.Trees.{Expression, Condition}
use Rattle.tv_program.specs.Views.{expression, condition}
use Rattle.tv_program.specs.Limits.{expression_fits, expression_depth, condition_fits, condition_depth}
use Rattle.tv_language.specs.Symbols.{name}
use Rattle.tv_language.specs.Sums.{IsSum}
use Rattle.tv_language.specs.Conditions.{IsCondition}
use Rattle.tv_grammar.specs.Reads.{Fault, faulty, fault}
use Rattle.tv_grammar.proofs.Results.{ok_is, clash}
use Rattle.tv_reading.specs.Marks.{Kind, Mark, plain, refused, symbols_of, Stand, left, Passes}
use Rattle.tv_reading.specs.SumGrammar.{Grammar, every, sum_at}
use Rattle.tv_reading.specs.ConditionGrammar.{condition_at}
use Rattle.tv_reading.specs.Refusals.{Refuses}
use Rattle.tv_reading.specs.Texts.{IsLongest}
use Rattle.tv_reading.specs.declared.fault.PartFault.{PartFault}
use Rattle.tv_reading.specs.declared.fault.PartFault.TheVariants.{Syntax, Wide, Deep, NotLinear, TooMany, UnknownName, Memory}
use Rattle.tv_reading.specs.Readings.{one_name, sum_levels, condition_levels, IsRead, IsGiven, OnRefusal}
use Rattle.tv_reading.proofs.SumLemmas.{sum_exact, sum_ends}
use Rattle.tv_reading.proofs.SumTexts.{sum_is, sum_is_read}
use Rattle.tv_reading.proofs.LooseSums.{sums_loose}
use Rattle.tv_reading.proofs.ConditionLemmas.{condition_exact}
use Rattle.tv_reading.proofs.ConditionEnds.{condition_ends}
use Rattle.tv_reading.proofs.ConditionTexts.{condition_is}
use Rattle.tv_reading.proofs.ConditionsRead.{condition_is_read}
use Rattle.tv_reading.proofs.LooseConditions.{conditions_loose}
use Rattle.tv_reading.proofs.FurtherLemmas.{sum_further, condition_further}
use Rattle.tv_reading.proofs.RefusalLemmas.{refuses}
use Rattle.tv_reading.proofs.LongestTexts.{text_found, text_only}
use Rattle.tv_reading.proofs.FitLemmas.{all_fit, sum_fits, condition_fit, sum_shallow, condition_shallow}
use Rattle.tv_reading.proofs.PassedLemmas.{passed_fit}
use Rattle.tv_language.specs.declared.token.TokenKind.TheVariants as kinds

module _ {X Y : Type 0} (view : X → Y) (now : Stand) (read : Result (Y × List Mark) (Fault Mark Kind)) where
  pub on_value : (P : Y → List Mark → Type 0) → ((y : Y) (r : List Mark) → read ≡ Ok (y, r) → P y r) → (result : Result X PartFault) → IsRead view result now read → IfOk result (λ x. P (view x) (left now))
  on_value P f (Ok x) h = f (view x) (left now) h
  on_value P f (Err e) h = tt

  pub on_fault : (P : Kind → Type 0) → ((k : Kind) → read ≡ fault k (left now) → P k) → (result : Result X PartFault) → IsRead view result now read → OnRefusal result P
  on_fault P f (Ok x) h = tt
  on_fault P f (Err Memory) h = tt
  on_fault P f (Err (Syntax at)) h = f _ h.0
  on_fault P f (Err (Wide at)) h = f _ h.0
  on_fault P f (Err (Deep at)) h = f _ h.0
  on_fault P f (Err (NotLinear at)) h = f _ h.0
  on_fault P f (Err (TooMany at)) h = f _ h.0
  on_fault P f (Err (UnknownName at)) h = f _ h.0

  no_fault : (y : Y) (rest : List Mark) (k : Kind) → read ≡ Ok (y, rest) → read ≡ fault k (left now) → ⊥
  no_fault y rest k e h = clash {A = Y × List Mark} (y, rest) (faulty k (left now)) (sym e ∙ h)

  pub given : (result : Result X PartFault) → IsRead view result now read → (y : Y) (rest : List Mark) → read ≡ Ok (y, rest) → IsGiven result (λ x. (view x ≡ y) × (left now ≡ rest))
  given (Ok x) h y rest e =
      let is = ok_is {E = Fault Mark Kind} {A = Y × List Mark} (view x, left now) (y, rest) (sym h ∙ e) in
      (ap (λ (p : Y × List Mark). p.0) is, ap (λ (p : Y × List Mark). p.1) is)
  given (Err Memory) h y rest e = tt
  given (Err (Syntax at)) h y rest e = no_fault y rest _ e h.0
  given (Err (Wide at)) h y rest e = no_fault y rest _ e h.0
  given (Err (Deep at)) h y rest e = no_fault y rest _ e h.0
  given (Err (NotLinear at)) h y rest e = no_fault y rest _ e h.0
  given (Err (TooMany at)) h y rest e = no_fault y rest _ e h.0
  given (Err (UnknownName at)) h y rest e = no_fault y rest _ e h.0

-- ---- names

name_passed : (ms : List Mark) (v : ℕ) (r : List Mark) → one_name.read ms ≡ Ok (v, r) → ms ≡ plain (name v) ∷ r
name_passed [] v r e = absurd cc
name_passed (plain (name w) ∷ ms) v r e =
    let is = ok_is {E = Fault Mark Kind} {A = ℕ × List Mark} (w, ms) (v, r) e in
    ap (λ (x : ℕ × List Mark). plain (name x.0) ∷ x.1) is
name_passed (refused k kinds.Name ∷ ms) v r e = absurd cc
name_passed (m ∷ ms) v r e = absurd cc

pub name_fits : (old now : Stand) (result : Result ℕ PartFault) → IsRead (λ v. v) result now (one_name.read (left old)) → Passes old now → IfOk result (λ v. v < length now.names)
name_fits old now (Ok v) h p = ltb-true v (length now.names) ((and_parts _ _ (passed_fit old now p (plain (name v) ∷ []) (name_passed (left old) v (left now) h))).0)
name_fits old now (Err f) h p = tt

-- ---- sums

abbrev Sums : ℕ → Grammar Expression
Sums n = sum_at every n true

module _ (n : ℕ) where
  pub sum_longest : (ms : List Mark) (e : Expression) (r : List Mark) → (Sums n).read ms ≡ Ok (e, r) → IsLongest (IsSum n) e ms r
  sum_longest ms e r h = text_found (Sums n) (IsSum n) (sum_exact every n true) (sum_ends every n true) (sum_further every n true) (sum_is n true) (λ x ts rest is ms same. sum_is_read is ms same) ms e r h

  sum_only : (ms : List Mark) (e : Expression) (r : List Mark) → IsLongest (IsSum n) e ms r → (Sums n).read ms ≡ Ok (e, r)
  sum_only ms e r h = text_only (Sums n) (IsSum n) (sum_exact every n true) (sum_ends every n true) (sum_further every n true) (sum_is n true) (λ x ts rest is ms same. sum_is_read is ms same) ms e r h

-- what is read is a text of what is passed
passed_text : (s u : Stand) (passed : List Mark) → Passes s u → left s ≡ passed ++ left u → all_fit (length u.names) u.draws (symbols_of passed ++ []) ≡ true
passed_text s u passed p e = ap (all_fit (length u.names) u.draws) (append-nil (symbols_of passed)) ∙ passed_fit s u p passed e

module _ (old now : Stand) (result : Result Expr PartFault) (reads : IsRead expression result now ((Sums (sum_levels old)).read (left old))) where
  pub sum_found : IfOk result (λ e. IsLongest (IsSum (sum_levels old)) (expression e) (left old) (left now))
  sum_found = on_value expression now ((Sums (sum_levels old)).read (left old)) (λ e r. IsLongest (IsSum (sum_levels old)) e (left old) r) (sum_longest (sum_levels old) (left old)) result reads

  pub sum_given : (e : Expression) (rest : List Mark) → IsLongest (IsSum (sum_levels old)) e (left old) rest → IsGiven result (λ f. (expression f ≡ e) × (left now ≡ rest))
  sum_given e rest w = given expression now ((Sums (sum_levels old)).read (left old)) result reads e rest (sum_only (sum_levels old) (left old) e rest w)

  pub sum_refused : OnRefusal result (λ k. Refuses (λ kept n. sum_at kept n true) (sum_levels old) k (left old) (left now))
  sum_refused = on_fault expression now ((Sums (sum_levels old)).read (left old)) (λ k. Refuses (λ kept n. sum_at kept n true) (sum_levels old) k (left old) (left now)) (λ k e. refuses (λ kept n. sum_at kept n true) (λ kept n. sum_exact kept n true) (λ kept n. sum_ends kept n true) (λ kept syntax n m w. sums_loose kept syntax n m w true) (sum_levels old) k (left old) (left now) e) result reads

  fit_by : Passes old now → (e : Expression) → IsLongest (IsSum (sum_levels old)) e (left old) (left now) → expression_fits (length now.names) now.draws e ≡ true
  fit_by p e w = (sum_fits (length now.names) now.draws (w.is []) (passed_text old now w.passed p w.parts)).0

  pub sum_fit_now : Passes old now → IfOk result (λ e. IsTrue (expression_fits (length now.names) now.draws (expression e)))
  sum_fit_now p = by result sum_found
    where
      by : (r : Result Expr PartFault) → IfOk r (λ e. IsLongest (IsSum (sum_levels old)) (expression e) (left old) (left now)) → IfOk r (λ e. IsTrue (expression_fits (length now.names) now.draws (expression e)))
      by (Ok e) w = fit_by p (expression e) w
      by (Err f) w = tt

  pub sum_depth : IfOk result (λ e. expression_depth (expression e) ≤ 400)
  sum_depth = by result sum_found
    where
      by : (r : Result Expr PartFault) → IfOk r (λ e. IsLongest (IsSum (sum_levels old)) (expression e) (left old) (left now)) → IfOk r (λ e. expression_depth (expression e) ≤ 400)
      by (Ok e) w = let h = sum_shallow (w.is []) in omega arith
      by (Err f) w = tt

-- ---- conditions

module _ (n : ℕ) where
  pub condition_longest : (ms : List Mark) (c : Condition) (r : List Mark) → (condition_at every n).read ms ≡ Ok (c, r) → IsLongest (IsCondition n) c ms r
  condition_longest ms c r h = text_found (condition_at every n) (IsCondition n) (condition_exact every n) (condition_ends every n) (condition_further every n) (condition_is n) (λ x ts rest is ms same. condition_is_read is ms same) ms c r h

  condition_only : (ms : List Mark) (c : Condition) (r : List Mark) → IsLongest (IsCondition n) c ms r → (condition_at every n).read ms ≡ Ok (c, r)
  condition_only ms c r h = text_only (condition_at every n) (IsCondition n) (condition_exact every n) (condition_ends every n) (condition_further every n) (condition_is n) (λ x ts rest is ms same. condition_is_read is ms same) ms c r h

condition_few : (grows : Bool) (level : ℕ) → cond grows 63 (64 - level) ≤ 64
condition_few true level = omega arith
condition_few false level = omega arith

module _ (old now : Stand) (result : Result Cond PartFault) (reads : IsRead condition result now ((condition_at every (condition_levels old)).read (left old))) where
  pub condition_found : IfOk result (λ c. IsLongest (IsCondition (condition_levels old)) (condition c) (left old) (left now))
  condition_found = on_value condition now ((condition_at every (condition_levels old)).read (left old)) (λ c r. IsLongest (IsCondition (condition_levels old)) c (left old) r) (condition_longest (condition_levels old) (left old)) result reads

  pub condition_given : (c : Condition) (rest : List Mark) → IsLongest (IsCondition (condition_levels old)) c (left old) rest → IsGiven result (λ d. (condition d ≡ c) × (left now ≡ rest))
  condition_given c rest w = given condition now ((condition_at every (condition_levels old)).read (left old)) result reads c rest (condition_only (condition_levels old) (left old) c rest w)

  pub condition_refused : OnRefusal result (λ k. Refuses condition_at (condition_levels old) k (left old) (left now))
  condition_refused = on_fault condition now ((condition_at every (condition_levels old)).read (left old)) (λ k. Refuses condition_at (condition_levels old) k (left old) (left now)) (λ k e. refuses condition_at condition_exact condition_ends conditions_loose (condition_levels old) k (left old) (left now) e) result reads

  fit_condition_by : Passes old now → (c : Condition) → IsLongest (IsCondition (condition_levels old)) c (left old) (left now) → condition_fits (length now.names) now.draws c ≡ true
  fit_condition_by p c w = (condition_fit (length now.names) now.draws (w.is []) (passed_text old now w.passed p w.parts)).0

  pub condition_fit_now : Passes old now → IfOk result (λ c. IsTrue (condition_fits (length now.names) now.draws (condition c)))
  condition_fit_now p = by result condition_found
    where
      by : (r : Result Cond PartFault) → IfOk r (λ c. IsLongest (IsCondition (condition_levels old)) (condition c) (left old) (left now)) → IfOk r (λ c. IsTrue (condition_fits (length now.names) now.draws (condition c)))
      by (Ok c) w = fit_condition_by p (condition c) w
      by (Err f) w = tt

  pub condition_depth_now : IfOk result (λ c. condition_depth (condition c) ≤ 400)
  condition_depth_now = by result condition_found
    where
      by : (r : Result Cond PartFault) → IfOk r (λ c. IsLongest (IsCondition (condition_levels old)) (condition c) (left old) (left now)) → IfOk r (λ c. condition_depth (condition c) ≤ 400)
      by (Ok c) w = let h = condition_shallow (w.is []) in let bounded = condition_few old.grows old.level in omega arith
      by (Err f) w = tt
