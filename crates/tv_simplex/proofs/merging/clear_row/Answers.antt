use Rattle.tv_simplex.proofs.Ring.{zero_times}
use Rattle.tv_simplex.specs.Rows.{ratio, entry_in}
use Rattle.tv_simplex.proofs.RowLemmas.{less_product_zero, entry_above, tested_true}
use Rattle.tv_simplex.proofs.merging.clear_row.Goals as goal

pub returns-then-is_zero : goal.returns-then-is_zero
returns-then-is_zero c =
    let row = c.args.row.now.items in
    let f = c.args.factor.now in
    record {
      sparse = c.requires.row;
      each = λ j l. less_product_zero (entry_in row j) (ratio f) (entry_in c.args.pivots.now j) (entry_above row j) (zero_times f.numerator (entry_in c.args.pivots.now j).numerator (tested_true c.is_zero.result c.is_zero.ensures c.if-is_zero.true));
    }
