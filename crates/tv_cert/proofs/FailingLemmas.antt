-- The first obligation that is not met, in lists joined.
use Rattle.std.proofs.Common.{◌≡◌, ℕ, ◌+◌, List, [], ◌∷◌, ◌++◌, length, arith, sym, ap, ◌∙◌, append_assoc, length-append}
use Rattle.tv_cert.specs.declared.failing.Failing.{Failing}
use Rattle.tv_cert.specs.Obligations.{Entry, AllMet}
use Rattle.tv_cert.specs.FirstFailing.{IsFirstFailing}

pub failing_left : (es fs : List Entry) (from : ℕ) (f : Failing) → IsFirstFailing es from f → IsFirstFailing (es ++ fs) from f
failing_left es fs from f h = record { before = h.before; failing = h.failing; after = h.after ++ fs; parts = ap (λ xs. xs ++ fs) h.parts ∙ append_assoc h.before (h.failing ∷ h.after) fs; met = h.met; fails = h.fails; number = h.number; node = h.node; kind = h.kind }

pub all_join : (es fs : List Entry) → AllMet es → AllMet fs → AllMet (es ++ fs)
all_join [] fs h k = k
all_join (e ∷ es) fs h k = (h.0, all_join es fs h.1 k)

pub failing_right : (es fs : List Entry) (from : ℕ) (seen : ℕ) (f : Failing) → AllMet es → seen ≡ from + length es → IsFirstFailing fs seen f → IsFirstFailing (es ++ fs) from f
failing_right es fs from seen f all e h = record {
  before = es ++ h.before;
  failing = h.failing;
  after = h.after;
  parts = ap (λ xs. es ++ xs) h.parts ∙ sym (append_assoc es h.before (h.failing ∷ h.after));
  met = all_join es h.before all h.met;
  fails = h.fails;
  number = (let n = h.number in let l = length-append es h.before in omega (arith, n, l, e));
  node = h.node;
  kind = h.kind;
}
