use Rattle.std.proofs.Common.{◌∷◌, arith, ap, subst, ◌∙◌}
use Rattle.tv_simplex.specs.Rows.{entry_in, IsSparse}
use Rattle.tv_simplex.proofs.RowLemmas.{first_and_others, sparse_from}
use Rattle.tv_simplex.proofs.MarkLemmas.{marks_before, marks_full}
use Rattle.tv_simplex.proofs.marks.marks_of.Goals as goal

pub returns-then-column-columns : goal.returns-then-column-columns
returns-then-column-columns c =
    let k = c.entries.invariant in
    let e = c.first-item.result in
    let is = first_and_others c.entries.left.now e (omega (arith, c.in-len1-up.len_at_least)) c.first-item.is in
    let s = subst (λ z. IsSparse k.0.0 k.0.1.0 z) is k.0.1.1 in
    marks_before c.args.columns k.0.1.0 e.column c.args.row.now (e ∷ _) c.entries.marks c.if-column-columns.true
    (sparse_from k.0.0 e.column k.0.1.0 (e ∷ _) s (omega arith))
    (λ j l unset. k.1 j l unset ∙ ap (λ z. entry_in z j) is)

pub returns-then-marks : goal.returns-then-marks
returns-then-marks c = marks_full c.args.columns c.args.row.now c.entries.marks (omega (arith, c.if-marks.true))
