-- What a reader's calls of its reading show.
use Rattle.std.proofs.Common.{◌≡◌, ℕ, ◌-◌, Bool, true, false, cond, List, Result, Ok, Err, ap, subst, ◌∙◌}
use Rattle.tv_program.specs.Words.{Word}
use Rattle.tv_program.specs.declared.tree.Expr.{Expr}
use Rattle.tv_program.specs.declared.tree.Cond.{Cond}
use Rattle.tv_program.specs.Views.{expression, condition}
use Rattle.tv_language.specs.Programs.{draws_in, draws_tested}
use Rattle.tv_grammar.specs.Reads.{fault}
use Rattle.tv_reading.specs.Marks as marks
use Rattle.tv_reading.specs.Marks.{Kind, Stand, Passes}
use Rattle.tv_reading.specs.Readings.{IsRead, sum_levels, condition_levels}
use Rattle.tv_reading.specs.SumGrammar.{every, sum_at}
use Rattle.tv_reading.specs.ConditionGrammar.{condition_at}
use Rattle.tv_reading.specs.declared.fault.PartFault.{PartFault}
use Rattle.tv_reading.proofs.PassedLemmas.{passes_kept}
use Rattle.tv_reading.proofs.SumLemmas.{sum_exact}
use Rattle.tv_reading.proofs.ConditionLemmas.{condition_exact}
use Rattle.tv_reading.specs.Answers.{Unless, kind_of, reason_of}
use Rattle.tv_reader.specs.Readers.{Steady, Fixture}
use Rattle.tv_reader.proofs.StepLemmas.{left_of}
use Rattle.tv_reader.proofs.ReadLemmas.{Went, Found, found_there, reason_told, sum_body, sum_draws, condition_body, condition_draws}

abbrev pub fixture_of : List Word → Stand → Fixture
fixture_of labels s = record { text = s.text; tokens = s.tokens; names = s.names; labels = labels }

pub same_fixture : (labels : List Word) (s u : Stand) → Passes s u → Went labels s u → fixture_of labels u ≡ fixture_of labels s
same_fixture labels s u p w =
    let k = passes_kept s u p in
    ap (λ (t : List ℕ). record { text = t; tokens = u.tokens; names = u.names; labels = labels }) k.text
    ∙ ap (λ ts. record { text = s.text; tokens = ts; names = u.names; labels = labels }) k.tokens
    ∙ ap (λ (ns : List Word). record { text = s.text; tokens = s.tokens; names = ns; labels = labels }) w.names

module _ (labels : List Word) (s u : Stand) (passes : Passes s u) (steady : Steady false s) where
  sum_here : (result : Result Expr PartFault) → IsRead expression result u ((sum_at every (sum_levels s) true).read (marks.left s)) → IsRead expression result u ((sum_at every 64 true).read (marks.left s))
  sum_here result h = subst (λ (n : ℕ). IsRead expression result u ((sum_at every (64 - n) true).read (marks.left s))) steady.level h

  pub sum_found : (x : Expr) → IsRead expression (Ok x) u ((sum_at every (sum_levels s) true).read (marks.left s)) → Found (sum_at every 64 true) (sum_exact every 64 true) (sum_body 64) draws_in (sum_draws 64) labels s u passes steady (expression x)
  sum_found x h = found_there (sum_at every 64 true) (sum_exact every 64 true) (sum_body 64) draws_in (sum_draws 64) labels s u passes steady (expression x) (sum_here (Ok x) h)

  pub sum_refused : (P : Kind → Type 0) → ((k : Kind) → Went labels s u → (sum_at every 64 true).read (left_of labels false s) ≡ fault k (left_of labels false u) → P k) → (f : PartFault) → IsRead expression (Err f) u ((sum_at every (sum_levels s) true).read (marks.left s)) → Unless (reason_of f) (P (kind_of (reason_of f)))
  sum_refused P g f h = reason_told (sum_at every 64 true) (sum_exact every 64 true) (sum_body 64) draws_in (sum_draws 64) labels s u passes steady P (λ k r. g k r.went r.read) expression f (sum_here (Err f) h)

  condition_here : (result : Result Cond PartFault) → IsRead condition result u ((condition_at every (condition_levels s)).read (marks.left s)) → IsRead condition result u ((condition_at every 63).read (marks.left s))
  condition_here result h = subst (λ (b : Bool). IsRead condition result u ((condition_at every (cond b 63 (64 - s.level))).read (marks.left s))) steady.grows h

  pub condition_found : (x : Cond) → IsRead condition (Ok x) u ((condition_at every (condition_levels s)).read (marks.left s)) → Found (condition_at every 63) (condition_exact every 63) (condition_body 63) draws_tested (condition_draws 63) labels s u passes steady (condition x)
  condition_found x h = found_there (condition_at every 63) (condition_exact every 63) (condition_body 63) draws_tested (condition_draws 63) labels s u passes steady (condition x) (condition_here (Ok x) h)

  pub condition_refused : (P : Kind → Type 0) → ((k : Kind) → Went labels s u → (condition_at every 63).read (left_of labels false s) ≡ fault k (left_of labels false u) → P k) → (f : PartFault) → IsRead condition (Err f) u ((condition_at every (condition_levels s)).read (marks.left s)) → Unless (reason_of f) (P (kind_of (reason_of f)))
  condition_refused P g f h = reason_told (condition_at every 63) (condition_exact every 63) (condition_body 63) draws_tested (condition_draws 63) labels s u passes steady P (λ k r. g k r.went r.read) condition f (condition_here (Err f) h)
