use Rattle.std.proofs.Common.{◌≡◌, take}
use Rattle.std.specs.Prelude.{All}
use Rattle.tv_linear.specs.Linear.{IsWithin}
use Rattle.tv_propose.specs.Constants.{with_numbers, row_constants}
use Rattle.tv_propose.proofs.constants.put_rows.Given as goal

abbrev pub invariant-rows : goal.invariant-rows
invariant-rows l = record {
  put : l.numbers.keys ≡ with_numbers l.fn.numbers.keys (row_constants (take l.row-index l.rows));
  all : All (IsWithin 62) l.numbers.keys;
}
