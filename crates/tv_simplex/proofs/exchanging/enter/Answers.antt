use Rattle.std.proofs.Common.{◌≡◌, ◌+◌, drop, length, arith, ap, sym, subst, ◌∙◌}
use Rattle.tv_simplex.specs.Rows.{IsGrid}
use Rattle.tv_simplex.specs.Exchanges.{IsNext}
use Rattle.tv_simplex.specs.Marks.{AreMarked, AreMarkedBut}
use Rattle.tv_simplex.proofs.MarkLemmas.{still_marked, written_back}
use Rattle.tv_simplex.proofs.exchanging.enter.Goals as goal

pub mark_again-requires-clause-rows : goal.mark_again-requires-clause-rows
mark_again-requires-clause-rows c =
    let t = c.args.table.now in
    let new = c.exchange.new.rows in
    let width = t.columns + c.len.result + 1 in
    let same : c.deref.result.now ≡ new = c.deref.ensures.value ∙ written_back t.rows.len new (drop (length new) t.rows.items) (let r = c.exchange.auto.rows in let n = c.deref_mut.ensures.len in omega (arith, r, n)) in
    let next : IsNext width c.args.row c.args.column t.rows.items new = subst (λ z. IsNext width c.args.row c.args.column z new) c.deref_mut.ensures.value c.in-Ok.ensures in
    (width, subst (λ z. IsGrid width z) (sym same) (λ i l. next.grid i l))

pub mark_again-requires-clause-others : goal.mark_again-requires-clause-others
mark_again-requires-clause-others c =
    let t = c.args.table.now in
    let new = c.exchange.new.rows in
    let width = t.columns + c.len.result + 1 in
    let marks = c.deref_mut-in-Ok.result.now in
    let same : c.deref.result.now ≡ new = c.deref.ensures.value ∙ written_back t.rows.len new (drop (length new) t.rows.items) (let r = c.exchange.auto.rows in let n = c.deref_mut.ensures.len in omega (arith, r, n)) in
    let next : IsNext width c.args.row c.args.column t.rows.items new = subst (λ z. IsNext width c.args.row c.args.column z new) c.deref_mut.ensures.value c.in-Ok.ensures in
    let e = c.deref_mut-in-Ok.ensures.value in
    let many : length marks ≡ length t.basis.items = ap length e ∙ c.requires.table.marks.size in
    let marked = subst (λ z. AreMarked t.columns (length marks) t.rows.items z) (sym e) (subst (λ k. AreMarked t.columns k t.rows.items t.marks.items) (sym many) c.requires.table.marks) in
    subst (λ z. AreMarkedBut c.args.factors.now t.columns (length marks) z marks) (sym same)
    (still_marked t.columns (length marks) width c.args.row c.args.column c.args.factors.now t.rows.items new marks (omega arith) (let h = c.requires.table.height in omega (arith, h, many)) c.requires.above c.requires.factors next marked)
