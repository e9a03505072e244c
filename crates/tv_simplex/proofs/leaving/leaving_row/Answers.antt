use Rattle.std.proofs.Common.{◌∷◌, ◌≤◌, length, arith, subst}
use Rattle.tv_simplex.specs.Rows.{entry_in, IsRestOf}
use Rattle.tv_simplex.specs.Tables.{shown}
use Rattle.tv_simplex.proofs.RowLemmas.{first_and_others, left_gap, left_ends}
use Rattle.tv_simplex.proofs.LeavingLemmas.{nothing_above, best_up}
use Rattle.tv_simplex.proofs.leaving.leaving_row.Goals as goal

pub returns-then-row-len : goal.returns-then-row-len
returns-then-row-len c =
    let t = c.args.table.now in
    let m = length t.basis.items in
    let height = length t.rows.items in
    let g = c.args.factors.now in
    let e = c.first-item.result in
    let k = c.factors.invariant in
    let q = subst (λ z. IsRestOf (entry_in g) k.0 height z) (first_and_others c.factors.left.now e (omega (arith, c.in-len1-up.len_at_least)) c.first-item.is) k.2 in
    let low = q.sparse.0.from in
    best_up m t.columns (shown t) c.args.column k.0 m (let l = c.requires.column in omega (arith, l)) k.1 (omega arith) c.factors.best
    (λ i from up. nothing_above height c.args.column (shown t) g c.requires.factors i (let h = c.requires.table.height in omega (arith, h, up))
    (left_gap (entry_in g) k.0 height e.column (e ∷ _) low (omega arith) q i from (let h = c.if-row-len.true in let n = c.len.ensures in omega (arith, h, n, up))))
    k.3

pub better_row-best-requires-clause-best : goal.better_row-best-requires-clause-best
better_row-best-requires-clause-best c =
    let t = c.args.table.now in
    let m = length t.basis.items in
    let height = length t.rows.items in
    let g = c.args.factors.now in
    let e = c.first-item.result in
    let k = c.factors.invariant in
    let q = subst (λ z. IsRestOf (entry_in g) k.0 height z) (first_and_others c.factors.left.now e (omega (arith, c.in-len1-up.len_at_least)) c.first-item.is) k.2 in
    let low = q.sparse.0.from in
    let high : e.column ≤ m = (let h = c.if-row-len.false in let n = c.len.ensures in omega (arith, h, n)) in
    best_up m t.columns (shown t) c.args.column k.0 e.column (let l = c.requires.column in omega (arith, l)) low high c.factors.best
    (λ i from up. nothing_above height c.args.column (shown t) g c.requires.factors i (let h = c.requires.table.height in omega (arith, h, high, up))
    (left_gap (entry_in g) k.0 height e.column (e ∷ _) low (omega arith) q i from up))
    k.3

pub returns : goal.returns
returns c =
    let t = c.args.table.now in
    let m = length t.basis.items in
    let height = length t.rows.items in
    let g = c.args.factors.now in
    let k = c.factors.invariant in
    best_up m t.columns (shown t) c.args.column k.0 m (let l = c.requires.column in omega (arith, l)) k.1 (omega arith) c.factors.best
    (λ i from up. nothing_above height c.args.column (shown t) g c.requires.factors i (let h = c.requires.table.height in omega (arith, h, up))
    (left_ends (entry_in g) k.0 height c.factors.left.now (omega (arith, c.in_default.len_below)) k.2 i from))
    k.3
