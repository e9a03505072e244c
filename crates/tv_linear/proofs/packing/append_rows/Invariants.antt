use Rattle.std.proofs.Common.{◌≡◌, ◌++◌, drop, take}
use Rattle.std.specs.Prelude.{All}
use Rattle.tv_linear.specs.Linear.{IsNarrow}
use Rattle.tv_linear.specs.Packed.{packed}
use Rattle.tv_linear.proofs.packing.append_rows.Given as goal

abbrev pub invariant-loop-row : goal.invariant-loop-row
invariant-loop-row l = record {
  appended : l.numbers.items ++ packed (drop l.row-index l.rows) ≡ l.fn.numbers.items ++ packed l.rows;
  narrow : All IsNarrow (take l.row-index l.rows);
}
