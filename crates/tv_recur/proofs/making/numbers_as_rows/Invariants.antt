use Rattle.std.proofs.Common.{◌≡◌, take}
use Rattle.tv_points.specs.PointRows.{number_rows}
use Rattle.tv_recur.proofs.making.numbers_as_rows.Given as goal

abbrev pub invariant-numbers : goal.invariant-numbers
invariant-numbers l = l.rows.items ≡ number_rows l.columns (take l.number-index l.numbers)
