use Rattle.std.proofs.Common.{◌≡◌, take}
use Rattle.std.specs.Prelude.{All}
use Rattle.tv_linear.specs.Linear.{IsWithin}
use Rattle.tv_propose.specs.Constants.{with_numbers, term_constants}
use Rattle.tv_propose.proofs.constants.put_terms.Given as goal

abbrev pub invariant-updates : goal.invariant-updates
invariant-updates l = record {
  put : l.numbers.keys ≡ with_numbers l.fn.numbers.keys (term_constants (take l.update-index l.updates));
  all : All (IsWithin 62) l.numbers.keys;
}
