use Rattle.std.proofs.Common.{◌+◌, arith, sym, ◌∙◌}
use Rattle.tv_simplex.specs.Rows.{ratio, entry_in, IsTaken}
use Rattle.tv_simplex.proofs.RowLemmas.{less_product_of, left_of, row_put, tested_false}
use Rattle.tv_simplex.proofs.merging.take_entry.Goals as goal

pub returns-then-not-is_narrow : goal.returns-then-not-is_narrow
returns-then-not-is_narrow c = λ old pivots width from p h.
    let column = c.args.pivot.now.column in
    let w = p.below in
    let m = c.in_ok-left.ensures.made old pivots (ratio c.args.factor.now) width from p.from (omega (arith, w)) p.none_before h in
    record {
      within = w;
      fraction = c.less_product-new.result;
      is = less_product_of (c.front_at.ensures.is width m.left.sparse ∙ m.left.same column (omega arith)) (c.fraction_of.ensures.is ∙ sym p.is) c.less_product-new.ensures;
      wide = tested_false c.is_narrow.result c.is_narrow.ensures c.if-not-is_narrow.true;
    }

pub returns : goal.returns
returns c = λ old pivots width from p h.
    let column = c.args.pivot.now.column in
    let f = ratio c.args.factor.now in
    let w = p.below in
    let m = c.in_ok-left.ensures.made old pivots f width from p.from (omega (arith, w)) p.none_before h in
    record {
      within = omega (arith, w);
      left = left_of (entry_in old) column width (column + 1) c.in_ok-left.left.now _ (omega arith) m.left (c.behind.ensures.rest width m.left.sparse);
      made = row_put (IsTaken old f pivots) column column (ratio c.less_product-new.result) c.copy_below.new.made.items _ (omega arith) m.made (λ j low up. absurd (omega (arith, low, up)))
          (less_product_of (c.front_at.ensures.is width m.left.sparse ∙ m.left.same column (omega arith)) (c.fraction_of.ensures.is ∙ sym p.is) c.less_product-new.ensures)
          c.in_ok-put_last.ensures;
    }
