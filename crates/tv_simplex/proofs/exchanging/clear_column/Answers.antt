use Rattle.std.proofs.Common.{◌+◌, ◌<◌, ◌∷◌, length, slice_index_or, arith, sym, subst, ◌∙◌}
use Rattle.std.proofs.lemmas.Option.{MatchOption-at_none, MatchOption-at_some}
use Rattle.tv_simplex.specs.Rows.{ratio, entry_in, row_of, IsSparse, IsRow, IsRestOf, IsWideBy, IsTaken}
use Rattle.tv_simplex.proofs.RowLemmas.{first_and_others, left_front, left_gap, left_behind, left_ends}
use Rattle.tv_simplex.proofs.TableLemmas.{row_at, cleared_up, cleared_more, cleared_skip}
use Rattle.tv_simplex.proofs.exchanging.clear_column.Goals as goal

pub clear_row-requires-clause-row : goal.clear_row-requires-clause-row
clear_row-requires-clause-row c =
    let old = c.args.rows.now in
    let g = entry_in c.args.factors.now in
    let e = c.first-item.result in
    let k = c.factors.invariant in
    let q = subst (λ z. IsRestOf g k.0 (length old) z) (first_and_others c.factors.left.now e (omega (arith, c.in-len1-up.len_at_least)) c.first-item.is) k.2 in
    let low = q.sparse.0.from in
    let below = q.sparse.0.below in
    let v = k.3 in
    let d = row_at c.factors.rows e.column c.index-rows-i.result (let n = v.size in omega (arith, below, n)) ∙ v.after e.column low in
    subst (λ z. IsSparse 0 c.args.width z) (sym d) (c.requires.grid e.column below)

pub returns-in-Some : goal.returns-in-Some
returns-in-Some c =
    let old = c.args.rows.now in
    let g = entry_in c.args.factors.now in
    let e = c.first-item.result in
    let k = c.factors.invariant in
    let q = subst (λ z. IsRestOf g k.0 (length old) z) (first_and_others c.factors.left.now e (omega (arith, c.in-len1-up.len_at_least)) c.first-item.is) k.2 in
    let low = q.sparse.0.from in
    let below = q.sparse.0.below in
    let v = k.3 in
    let row = (slice_index_or c.factors.rows e.column c.index-rows-i.result).items in
    let d = row_at c.factors.rows e.column c.index-rows-i.result (let n = v.size in omega (arith, below, n)) ∙ v.after e.column low in
    let f = ratio c.fraction_of.result in
    let ps = c.args.pivots.now in
    let j = c.in-Some.j in (
      below,
      c.if-i-row.true,
      subst (λ z. IsWideBy (IsTaken (row_of old e.column) z ps) c.args.width j) (c.fraction_of.ensures.is ∙ sym (left_front g k.0 (length old) e _ q))
          (subst (λ z. IsWideBy (IsTaken z f ps) c.args.width j) d
          (MatchOption-at_some (IsRow (IsTaken row f ps) c.args.width c.clear_row.new.row.items) (λ i. IsWideBy (IsTaken row f ps) c.args.width i) j c.in-Some.is c.in_ok-j.ensures)),
    )

pub factors-preserved-in_default-2 : goal.factors-preserved-in_default-2
factors-preserved-in_default-2 c =
    let old = c.args.rows.now in
    let g = entry_in c.args.factors.now in
    let e = c.first-item.result in
    let k = c.factors.invariant in
    let q = subst (λ z. IsRestOf g k.0 (length old) z) (first_and_others c.factors.left.now e (omega (arith, c.in-len1-up.len_at_least)) c.first-item.is) k.2 in
    let low = q.sparse.0.from in
    let below = q.sparse.0.below in
    let width = c.args.width in
    let ps = c.args.pivots.now in
    let v = cleared_up width c.args.row g ps k.0 old c.factors.rows k.3 c.requires.grid e.column low (omega (arith, below)) (left_gap g k.0 (length old) e.column (e ∷ _) low (omega arith) q) in
    let l : e.column < length c.factors.rows = (let n = v.size in omega (arith, below, n)) in
    let row = (slice_index_or c.factors.rows e.column c.index-rows-i.result).items in
    let d = row_at c.factors.rows e.column c.index-rows-i.result l ∙ v.after e.column (omega arith) in
    let f = ratio c.fraction_of.result in
    let new = c.clear_row.new.row in (
      e.column + 1,
      omega (arith, below),
      left_behind g k.0 (length old) e _ q,
      cleared_more width c.args.row g ps e.column old c.factors.rows v new c.if-i-row.true l
          (subst (λ z. IsRow (IsTaken (row_of old e.column) z ps) width new.items) (c.fraction_of.ensures.is ∙ sym (left_front g k.0 (length old) e _ q))
          (subst (λ z. IsRow (IsTaken z f ps) width new.items) d
          (MatchOption-at_none (IsRow (IsTaken row f ps) width new.items) (λ i. IsWideBy (IsTaken row f ps) width i) c.in_default-2.is c.in_ok-j.ensures))),
    )

pub factors-preserved : goal.factors-preserved
factors-preserved c =
    let old = c.args.rows.now in
    let g = entry_in c.args.factors.now in
    let e = c.first-item.result in
    let k = c.factors.invariant in
    let q = subst (λ z. IsRestOf g k.0 (length old) z) (first_and_others c.factors.left.now e (omega (arith, c.in-len1-up.len_at_least)) c.first-item.is) k.2 in
    let low = q.sparse.0.from in
    let below = q.sparse.0.below in
    let v = cleared_up c.args.width c.args.row g c.args.pivots.now k.0 old c.factors.rows k.3 c.requires.grid e.column low (omega (arith, below)) (left_gap g k.0 (length old) e.column (e ∷ _) low (omega arith) q) in (
      e.column + 1,
      omega (arith, below),
      left_behind g k.0 (length old) e _ q,
      cleared_skip c.args.width c.args.row g c.args.pivots.now e.column old c.factors.rows v c.if-i-row.false,
    )

pub returns : goal.returns
returns c =
    let old = c.args.rows.now in
    let g = entry_in c.args.factors.now in
    let k = c.factors.invariant in
    let v = cleared_up c.args.width c.args.row g c.args.pivots.now k.0 old c.factors.rows k.3 c.requires.grid (length old) k.1 (omega arith)
    (λ j low up. left_ends g k.0 (length old) c.factors.left.now (omega (arith, c.in_default.len_below)) k.2 j low) in
    record { size = v.size; kept = v.kept; cleared = v.before }
