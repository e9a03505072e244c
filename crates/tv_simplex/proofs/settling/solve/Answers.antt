use Rattle.std.proofs.Common.{◌≡◌, ◌+◌, length, arith, refl, sym, subst}
use Rattle.tv_simplex.specs.Views.{equations}
use Rattle.std.proofs.lemmas.Option.{MatchOption-at_none}
use Rattle.tv_simplex.specs.Outcomes.{AreUnsettled}
use Rattle.tv_simplex.specs.Walking.{IsRight}
use Rattle.tv_simplex.proofs.SettleLemmas.{wide_given, start_numbered, start_fault, walk_numbered, never_spent}
use Rattle.tv_simplex.specs.Rows.{IsGrid}
use Rattle.tv_simplex.specs.Marks.{AreMarked}
use Rattle.tv_simplex.specs.Starting.{last}
use Rattle.tv_simplex.proofs.StartLemmas.{first_grid, first_stands}
use Rattle.tv_simplex.proofs.settling.solve.Goals as goal

pub returns-in-Some-clause-refusals : goal.returns-in-Some-clause-refusals
returns-in-Some-clause-refusals c = wide_given (equations c.args.system.now) c.in-Ok.basis.items c.in-Some.row c.in-Some.column c.in-Ok.ensures c.in-Some.ensures

pub fault_at-requires : goal.fault_at-requires
fault_at-requires c = start_numbered (equations c.args.system.now) c.in-Err-first_rows.stop c.requires c.in-Err-first_rows.ensures

pub returns-in-Err-first_rows-clause-refusals : goal.returns-in-Err-first_rows-clause-refusals
returns-in-Err-first_rows-clause-refusals c = start_fault (equations c.args.system.now) c.in-Ok.basis.items c.args.pivots c.in-Err-first_rows.stop c.fault_at.result c.in-Ok.ensures c.in-Err-first_rows.ensures c.fault_at.ensures

pub first_marks-requires-clause-rows : goal.first_marks-requires-clause-rows
first_marks-requires-clause-rows c =
    let s = equations c.args.system.now in
    (last s + 1, subst (λ z. IsGrid (last s + 1) z) (sym c.deref.ensures.value) (first_grid s c.in-Ok-first_rows.rows.items c.in-Ok-first_rows.ensures))

pub walk-requires-clause-stands : goal.walk-requires-clause-stands
walk-requires-clause-stands c =
    let s = equations c.args.system.now in
    let height : c.len.result ≡ length c.in-Ok.basis.items = (let n = c.len.ensures in omega (arith, n)) in
    let marks = subst (λ z. AreMarked s.columns (length c.in-Ok.basis.items) z c.in-Ok-first_marks.marks.items) c.deref.ensures.value
    (subst (λ k. AreMarked s.columns k c.deref.result.now c.in-Ok-first_marks.marks.items) height c.in-Ok-first_marks.ensures) in
    first_stands s _ c.in-Ok.ensures refl c.in-Ok-first_rows.ensures marks

pub returns-in-Ok-None-clause-enough : goal.returns-in-Ok-None-clause-enough
returns-in-Ok-None-clause-enough c = never_spent (equations c.args.system.now) c.args.pivots (MatchOption-at_none (AreUnsettled (equations c.args.system.now) c.args.pivots) (λ a. IsRight (equations c.args.system.now) a) c.in-Ok-None.field-0-is c.in-Ok-None.ensures)

pub fault_at-requires-in-Err-walk : goal.fault_at-requires-in-Err-walk
fault_at-requires-in-Err-walk c = walk_numbered (equations c.args.system.now) c.walk.new.table.basis.items c.in-Err-walk.stop c.requires c.in-Err-walk.ensures
