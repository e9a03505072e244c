-- A sum or a condition is read from the text as from its own marks.
use Rattle.std.proofs.Common.{◌≡◌, ℕ, ◌+◌, Bool, true, false, List, [], ◌++◌, Ok, Err, ap, sym, ◌∙◌}
use Rattle.std.proofs.lemmas.List.{append-nil}
use Rattle.tv_program.specs.Words.{Word}
use Rattle.tv_language.specs.Symbols.{Symbol}
use Rattle.tv_language.specs.Programs.{draws_in, draws_tested}
use Rattle.tv_grammar.specs.Reads.{fault}
use Rattle.tv_grammar.specs.Exact.{Exact}
use Rattle.tv_grammar.proofs.ExactLemmas.{apart}
use Rattle.tv_grammar.proofs.LongestLemmas.{elsewhere_ok, elsewhere_fault}
use Rattle.tv_reading.specs.Marks as marks
use Rattle.tv_reading.specs.Marks.{Kind, Mark, symbols_of, Stand, Passes}
use Rattle.tv_reading.specs.Readings.{IsRead}
use Rattle.tv_reading.specs.SumGrammar.{Grammar, every, sum_at}
use Rattle.tv_reading.specs.ConditionGrammar.{condition_at}
use Rattle.tv_reading.specs.declared.fault.PartFault.{PartFault}
use Rattle.tv_reading.specs.declared.fault.PartFault.TheVariants as parts
use Rattle.tv_reading.proofs.PassedLemmas.{symbols-append}
use Rattle.tv_reading.proofs.SumTexts.{sum_is}
use Rattle.tv_reading.proofs.ConditionTexts.{condition_is}
use Rattle.tv_reading.specs.Answers.{Unless, kind_of, reason_of}
use Rattle.tv_reader.specs.Readers.{Steady}
use Rattle.tv_reading.proofs.SymbolLemmas.{all_body, body_front, draws_at_all, Uses, sum_uses, condition_uses}
use Rattle.tv_reader.proofs.StepLemmas.{left_of, Travels, travels, same_next}

-- where reading then stands
pub record Went (labels : List Word) (s u : Stand) : Type 0 where
  pub steady : Steady false u
  pub names : u.names ≡ s.names

module _ {Y : Type 0} (l : Grammar Y) (exact : Exact l) (plainly : (d : l.Of) → all_body (symbols_of (l.text d [])) ≡ true) (counts : Y → ℕ) (counted : (d : l.Of) → draws_at_all (symbols_of (l.text d [])) ≡ counts (l.value d)) (labels : List Word) (s u : Stand) (passes : Passes s u) (steady : Steady false s) where
  pub record Found (y : Y) : Type 0 where
    pub went : Went labels s u
    pub draws : u.draws ≡ s.draws + counts y
    pub read : l.read (left_of labels false s) ≡ Ok (y, left_of labels false u)

  pub found_there : (y : Y) → l.read (marks.left s) ≡ Ok (y, marks.left u) → Found y
  found_there y e =
      let f = exact.found (marks.left s) y (marks.left u) e in
      let passed : List Mark = l.text f.it [] in
      let parts : marks.left s ≡ passed ++ marks.left u = f.text ∙ apart l exact f.it (marks.left u) in
      let t : Travels labels s u passed = travels labels passes steady passed parts (plainly f.it) in
      let here : l.read (passed ++ marks.left u) ≡ Ok (y, marks.left u) = ap l.read (sym parts) ∙ e in
      record {
        went = record { steady = t.steady; names = t.names };
        draws = t.draws ∙ ap (λ (n : ℕ). s.draws + n) (counted f.it ∙ ap counts f.is);
        read = ap l.read t.mine ∙ elsewhere_ok l exact passed (marks.left u) (left_of labels false u) y (same_next labels u t.steady) here;
      }

  pub record Refused (k : Kind) : Type 0 where
    pub went : Went labels s u
    pub read : l.read (left_of labels false s) ≡ fault k (left_of labels false u)

  pub refused_there : (k : Kind) → l.read (marks.left s) ≡ fault k (marks.left u) → Refused k
  refused_there k e =
      let f = exact.least (marks.left s) k (marks.left u) e in
      let clean : all_body (symbols_of f.before) ≡ true = body_front (symbols_of f.before) (symbols_of f.more) (ap all_body (sym (ap symbols_of f.whole ∙ symbols-append f.before f.more)) ∙ plainly f.it) in
      let t : Travels labels s u f.before = travels labels passes steady f.before f.parts clean in
      let here : l.read (f.before ++ marks.left u) ≡ fault k (marks.left u) = ap l.read (sym f.parts) ∙ e in
      record {
        went = record { steady = t.steady; names = t.names };
        read = ap l.read t.mine ∙ elsewhere_fault l exact f.before (marks.left u) (left_of labels false u) k (same_next labels u t.steady) here;
      }

  -- the reason that is reported for a fault
  pub reason_told : (P : Kind → Type 0) → ((k : Kind) → Refused k → P k) → {X : Type 0} (view : X → Y) (f : PartFault) → IsRead view (Err f) u (l.read (marks.left s)) → Unless (reason_of f) (P (kind_of (reason_of f)))
  reason_told P h view (parts.Syntax at) r = h marks.Syntax (refused_there marks.Syntax r.0)
  reason_told P h view (parts.Wide at) r = h marks.Wide (refused_there marks.Wide r.0)
  reason_told P h view (parts.Deep at) r = h marks.Deep (refused_there marks.Deep r.0)
  reason_told P h view (parts.NotLinear at) r = h marks.NotLinear (refused_there marks.NotLinear r.0)
  reason_told P h view (parts.TooMany at) r = h marks.TooMany (refused_there marks.TooMany r.0)
  reason_told P h view (parts.UnknownName at) r = h marks.UnknownName (refused_there marks.UnknownName r.0)
  reason_told P h view parts.Memory r = tt

-- ---- what sums and conditions are made of

uses_body : {count : ℕ} {fits : ℕ → ℕ → Bool} (ts : List Symbol) → Uses count fits ts [] → all_body ts ≡ true
uses_body ts u = ap all_body (u.parts ∙ append-nil u.used) ∙ u.plainly

uses_draws : {count : ℕ} {fits : ℕ → ℕ → Bool} (ts : List Symbol) → Uses count fits ts [] → draws_at_all ts ≡ count
uses_draws ts u = ap draws_at_all (u.parts ∙ append-nil u.used) ∙ u.counted

pub sum_body : (n : ℕ) (d : (sum_at every n true).Of) → all_body (symbols_of ((sum_at every n true).text d [])) ≡ true
sum_body n d = uses_body (symbols_of ((sum_at every n true).text d [])) (sum_uses (sum_is n true d []))

pub sum_draws : (n : ℕ) (d : (sum_at every n true).Of) → draws_at_all (symbols_of ((sum_at every n true).text d [])) ≡ draws_in ((sum_at every n true).value d)
sum_draws n d = uses_draws (symbols_of ((sum_at every n true).text d [])) (sum_uses (sum_is n true d []))

pub condition_body : (n : ℕ) (d : (condition_at every n).Of) → all_body (symbols_of ((condition_at every n).text d [])) ≡ true
condition_body n d = uses_body (symbols_of ((condition_at every n).text d [])) (condition_uses (condition_is n d []))

pub condition_draws : (n : ℕ) (d : (condition_at every n).Of) → draws_at_all (symbols_of ((condition_at every n).text d [])) ≡ draws_tested ((condition_at every n).value d)
condition_draws n d = uses_draws (symbols_of ((condition_at every n).text d [])) (condition_uses (condition_is n d []))
