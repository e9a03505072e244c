use Rattle.std.proofs.Common.{ℕ, ◌<◌, ◌≡◌, get_or, length}
use Rattle.tv_cases.specs.declared.case.Case.{Case}
use Rattle.tv_invariant.specs.Passes.{IsClosed}
use Rattle.tv_invariant.proofs.passes.reopen.Given as goal

abbrev pub invariant-cases : goal.invariant-cases
invariant-cases l = record {
  as_many : length l.marks ≡ length l.fn.marks;
  before : (k : ℕ) → IsClosed l.marks k → IsClosed l.fn.marks k;
  elsewhere : (k : ℕ) → IsClosed l.marks k → k < l.number → (case : Case) → (get_or l.list k case).from ≡ l.location → ⊥;
}
