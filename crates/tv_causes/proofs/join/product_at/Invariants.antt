use Rattle.std.proofs.Common.{take, pos}
use Rattle.tv_linear.specs.Arithmetic.{constant_row}
use Rattle.tv_causes.specs.Walks.{product_of, IsCapped}
use Rattle.tv_causes.proofs.join.product_at.Given as goal

abbrev pub invariant-rows : goal.invariant-rows
invariant-rows l = IsCapped (product_of (constant_row l.variables (pos 1)) (take l.row-index l.rows)) l.column l.product
