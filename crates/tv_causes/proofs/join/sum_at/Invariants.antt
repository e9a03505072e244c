use Rattle.std.proofs.Common.{◌≡◌, ◌*◌, ◌^◌, ◌≤◌, take, pos}
use Rattle.std.specs.Prelude.{unsigned_abs}
use Rattle.tv_linear.specs.Arithmetic.{constant_row}
use Rattle.tv_linear.specs.Linear.{entry}
use Rattle.tv_causes.specs.Walks.{sum_of}
use Rattle.tv_causes.proofs.join.sum_at.Given as goal

abbrev pub invariant-rows : goal.invariant-rows
invariant-rows l = record {
  is : l.sum ≡ entry (sum_of (constant_row l.variables (pos 0)) (take l.row-index l.rows)) l.column;
  small : unsigned_abs l.sum ≤ l.row-index * 2 ^ 62;
}
