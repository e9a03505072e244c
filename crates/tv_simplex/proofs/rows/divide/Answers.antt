use Rattle.std.proofs.Common.{◌+◌, arith, subst, sym, ◌∙◌}
use Rattle.tv_simplex.specs.Rows.{ratio, IsDivided, IsMade}
use Rattle.tv_simplex.proofs.RowLemmas.{first_and_others, left_front, made_next, made_ends, divided_none, tested_false}
use Rattle.tv_simplex.specs.Ratios.{IsQuotient}
use Rattle.tv_simplex.specs.Rows.{entry_in}
use Rattle.tv_simplex.proofs.rows.divide.Goals as goal

pub returns-then-not-is_narrow : goal.returns-then-not-is_narrow
returns-then-not-is_narrow c = λ width h.
    let old = c.args.row.now in
    let d = ratio c.args.divisor.now in
    let e = c.first-item.result in
    let m = c.entries.invariant width h in
    let t = first_and_others c.entries.left.now e (omega (arith, c.in-len1-up.len_at_least)) c.first-item.is in
    let s = subst (λ z. IsMade (IsDivided old d) old width m.0 z c.entries.made.items) t m.1 in
    record {
      within = s.left.sparse.0.below;
      fraction = c.quotient-new.result;
      is = subst (λ z. IsQuotient (ratio c.quotient-new.result) z d) (c.fraction_of.ensures.is ∙ sym (left_front (entry_in old) m.0 width e _ s.left)) c.quotient-new.ensures;
      wide = tested_false c.is_narrow.result c.is_narrow.ensures c.if-not-is_narrow.true;
    }

pub entries-preserved : goal.entries-preserved
entries-preserved c = λ width h.
    let old = c.args.row.now in
    let d = ratio c.args.divisor.now in
    let e = c.first-item.result in
    let m = c.entries.invariant width h in
    let t = first_and_others c.entries.left.now e (omega (arith, c.in-len1-up.len_at_least)) c.first-item.is in
    let s = subst (λ z. IsMade (IsDivided old d) old width m.0 z c.entries.made.items) t m.1 in (
      e.column + 1,
      made_next (IsDivided old d) old width m.0 e _ (ratio c.quotient-new.result) c.entries.made.items _ s (λ j low up z. divided_none old d j z)
          (subst (λ z. IsQuotient (ratio c.quotient-new.result) z d) (c.fraction_of.ensures.is ∙ sym (left_front (entry_in old) m.0 width e _ s.left)) c.quotient-new.ensures)
          c.in_ok-put_last.ensures,
    )

pub returns : goal.returns
returns c = λ width h.
    let m = c.entries.invariant width h in
    made_ends (IsDivided c.args.row.now (ratio c.args.divisor.now)) c.args.row.now width m.0 c.entries.left.now c.entries.made.items (omega (arith, c.in_default.len_below)) m.1 (λ j z. divided_none c.args.row.now (ratio c.args.divisor.now) j z)
