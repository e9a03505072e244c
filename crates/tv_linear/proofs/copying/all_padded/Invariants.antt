use Rattle.std.proofs.Common.{◌≡◌, map, take}
use Rattle.tv_linear.specs.Arithmetic.{padded_row}
use Rattle.tv_linear.proofs.copying.all_padded.Given as goal

abbrev pub invariant-rows : goal.invariant-rows
invariant-rows l = l.all.items ≡ map (padded_row l.more) (take l.row-index l.rows)
