use Rattle.std.proofs.Common.{◌≡◌, ◌+◌, ◌<◌, length, get_or, arith, sym, ap, subst, ◌∙◌}
use Rattle.std.specs.Int.{bit_at}
use Rattle.std.proofs.lemmas.List.{get_or_default}
use Rattle.std.proofs.lemmas.Nat.Bits.{bit_at-lt}
use Rattle.std.proofs.lemmas.Result.{IfOk-weaker}
use Rattle.tv_simplex.specs.Rows.{ratio, none, IsPut, IsColumn}
use Rattle.tv_simplex.specs.Marks.{class_of}
use Rattle.tv_simplex.specs.Tables.{shown}
use Rattle.tv_simplex.proofs.RowLemmas.{row_put, row_wider, tested_false}
use Rattle.tv_simplex.proofs.MarkLemmas.{bit_unset}
use Rattle.tv_simplex.proofs.table.collect_column.Goals.{then-is_marked+in_ok-put_last, else-is_marked}
use Rattle.tv_simplex.proofs.table.collect_column.Goals as goal

pub rows-preserved : goal.rows-preserved
rows-preserved c =
    let t = c.args.table.now in
    let column = c.args.column in
    let i = c.rows.row in
    elim c.if-is_marked.branch [
      | then-is_marked+in_ok-put_last w ↦ subst (λ z. IsColumn (i + 1) column (shown t) z.items) (sym w.entries-is)
          (row_put (λ k f. f ≡ shown t k column) i i (ratio w.entry_at.result) c.rows.entries.items w.put_last.new.row.items (omega arith) c.rows.invariant (λ k low up. absurd (omega (arith, low, up))) w.entry_at.ensures.is w.in_ok-put_last.ensures)
      | else-is_marked w ↦
          let l : i < length t.marks.items = (let h = c.rows-test.true in let n = c.len-objective.ensures in omega (arith, h, n)) in
          let m = c.requires.table.marks in
          let here : i < length t.basis.items = (let s = m.size in omega (arith, s, l)) in
          let is = c.index.ensures ∙ get_or_default t.marks.items i c.index.result.now 0 l in
          let never = tested_false c.is_marked.result c.is_marked.ensures w.if-is_marked.false in
          let unset : bit_at (get_or t.marks.items i 0) (class_of column) ≡ 0 = ap (λ z. bit_at z (class_of column)) (sym is) ∙ bit_unset (bit_at c.index.result.now (class_of column)) (bit_at-lt c.index.result.now (class_of column)) never in
          subst (λ z. IsColumn (i + 1) column (shown t) z.items) (sym w.entries-is)
          (row_wider (λ k f. f ≡ shown t k column) i (i + 1) c.rows.entries.items (omega arith) c.rows.invariant
          (λ k low up. (let e : k ≡ i = omega (arith, low, up) in subst (λ z. none ≡ shown t z column) (sym e) (sym (m.each i here column c.requires.column unset)))))
    ]

pub returns : goal.returns
returns c =
    let t = c.args.table.now in
    let column = c.args.column in
    let n = c.len-objective.result in
    let e : n + 1 ≡ length t.rows.items = (let h = c.requires.table.height in let s = c.requires.table.marks.size in let l = c.len-objective.ensures in omega (arith, h, s, l)) in
    let old = subst (λ z. IsColumn z column (shown t) c.rows.entries.items) (let h = c.rows-test.false in let up = c.rows.auto.row-end in let q : c.rows.row ≡ n = omega (arith, h, up) in q) c.rows.invariant in
    IfOk-weaker c.put_last-2.result (λ _. IsPut n (ratio c.entry_at-2.result) c.rows.entries.items c.put_last-2.new.row.items) (λ _. IsColumn (length t.rows.items) column (shown t) c.put_last-2.new.row.items)
    (λ x put. subst (λ z. IsColumn z column (shown t) c.put_last-2.new.row.items) e
    (row_put (λ k f. f ≡ shown t k column) n n (ratio c.entry_at-2.result) c.rows.entries.items c.put_last-2.new.row.items (omega arith) old (λ k low up. absurd (omega (arith, low, up))) c.entry_at-2.ensures.is put))
    c.put_last-2.ensures
