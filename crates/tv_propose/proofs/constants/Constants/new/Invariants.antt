use Rattle.std.proofs.Common.{◌≡◌, [], ◌∷◌, take, pos}
use Rattle.std.specs.List.{flat_map}
use Rattle.std.specs.Prelude.{All}
use Rattle.tv_linear.specs.Linear.{IsWithin}
use Rattle.tv_cases.specs.Systems.{cases_of}
use Rattle.tv_propose.specs.Constants.{with_numbers, case_constants}
use Rattle.tv_propose.proofs.constants.Constants.new.Given as goal

abbrev pub invariant-cases : goal.invariant-cases
invariant-cases l = record {
  put : l.numbers.keys ≡ with_numbers (pos 0 ∷ []) (flat_map case_constants (take l.case-index (cases_of l.fn.about).cases));
  all : All (IsWithin 62) l.numbers.keys;
}
