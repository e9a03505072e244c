use Rattle.std.proofs.Common.{inl, inr, ◌+◌, length, arith, subst, sym, ◌∙◌}
use Rattle.std.specs.declared.cmp.Ordering.TheVariants.{Equal}
use Rattle.tv_simplex.specs.Choosing.{ComparesAt}
use Rattle.tv_simplex.specs.Rows.{IsRestOf}
use Rattle.tv_simplex.specs.Tables.{shown, width_of}
use Rattle.tv_simplex.proofs.RowLemmas.{left_up, left_gap, left_none, left_of}
use Rattle.tv_simplex.proofs.LeavingLemmas.{next_within, none_differ, differs_less, differs_greater, differs_nowhere}
use Rattle.tv_simplex.proofs.leaving.compare_artificial.Goals as goal
use Rattle.tv_linear.proofs.ListLaws.{last_or_below}

pub returns-in-Less : goal.returns-in-Less
returns-in-Less c =
    let t = c.args.table.now in
    let n = t.columns in
    let m = length t.basis.items in
    let first = shown t c.args.first in
    let second = shown t c.args.second in
    let col = c.args.column in
    let width = width_of t in
    let k = c.columns.invariant in
    let o = c.in-Some.at in
    let is = c.in-Some.ensures in
    let next = next_within k.0 width o c.columns.left.now c.columns.right.now k.3.sparse k.4.sparse is in
    let lf = left_up first k.0 width o c.columns.left.now next.0 is.left_from k.3 in
    let rf = left_up second k.0 width o c.columns.right.now next.0 is.right_from k.4 in
    let inside = c.requires.column in
    let low = k.1 in
    let from = next.0 in
    let high = next.1 in
    let one = c.front_at-one.ensures.is width lf.sparse ∙ lf.same o (omega arith) in
    let other = c.front_at-other.ensures.is width rf.sparse ∙ rf.same o (omega arith) in
    let before = none_differ m n col first second k.0 o (omega (arith, high)) k.5 (λ j g up. (left_gap first k.0 width o c.columns.left.now from is.left_from k.3 j g up, left_gap second k.0 width o c.columns.right.now from is.right_from k.4 j g up)) in
    differs_less m n col first second c.requires.tied o (omega (arith, low, from)) before (omega (arith, high))
    (c.in-Less.ensures (n + m) col o first second (omega (arith, inside)) (omega (arith, high)) one other c.entry_at-left_pivot.ensures.is c.entry_at-right_pivot.ensures.is)

pub returns-in-Greater : goal.returns-in-Greater
returns-in-Greater c =
    let t = c.args.table.now in
    let n = t.columns in
    let m = length t.basis.items in
    let first = shown t c.args.first in
    let second = shown t c.args.second in
    let col = c.args.column in
    let width = width_of t in
    let k = c.columns.invariant in
    let o = c.in-Some.at in
    let is = c.in-Some.ensures in
    let next = next_within k.0 width o c.columns.left.now c.columns.right.now k.3.sparse k.4.sparse is in
    let lf = left_up first k.0 width o c.columns.left.now next.0 is.left_from k.3 in
    let rf = left_up second k.0 width o c.columns.right.now next.0 is.right_from k.4 in
    let inside = c.requires.column in
    let low = k.1 in
    let from = next.0 in
    let high = next.1 in
    let one = c.front_at-one.ensures.is width lf.sparse ∙ lf.same o (omega arith) in
    let other = c.front_at-other.ensures.is width rf.sparse ∙ rf.same o (omega arith) in
    let before = none_differ m n col first second k.0 o (omega (arith, high)) k.5 (λ j g up. (left_gap first k.0 width o c.columns.left.now from is.left_from k.3 j g up, left_gap second k.0 width o c.columns.right.now from is.right_from k.4 j g up)) in
    differs_greater m n col first second c.requires.tied o (omega (arith, low, from)) before (omega (arith, high))
    (c.in-Greater.ensures (n + m) col o first second (omega (arith, inside)) (omega (arith, high)) one other c.entry_at-left_pivot.ensures.is c.entry_at-right_pivot.ensures.is)

pub columns-preserved : goal.columns-preserved
columns-preserved c =
    let t = c.args.table.now in
    let n = t.columns in
    let m = length t.basis.items in
    let first = shown t c.args.first in
    let second = shown t c.args.second in
    let col = c.args.column in
    let width = width_of t in
    let k = c.columns.invariant in
    let o = c.in-Some.at in
    let is = c.in-Some.ensures in
    let next = next_within k.0 width o c.columns.left.now c.columns.right.now k.3.sparse k.4.sparse is in
    let lf = left_up first k.0 width o c.columns.left.now next.0 is.left_from k.3 in
    let rf = left_up second k.0 width o c.columns.right.now next.0 is.right_from k.4 in
    let inside = c.requires.column in
    let low = k.1 in
    let from = next.0 in
    let high = next.1 in
    let one = c.front_at-one.ensures.is width lf.sparse ∙ lf.same o (omega arith) in
    let other = c.front_at-other.ensures.is width rf.sparse ∙ rf.same o (omega arith) in
    let before = none_differ m n col first second k.0 o (omega (arith, high)) k.5 (λ j g up. (left_gap first k.0 width o c.columns.left.now from is.left_from k.3 j g up, left_gap second k.0 width o c.columns.right.now from is.right_from k.4 j g up)) in
    let equal = (c.in-Equal.ensures (n + m) col o first second (omega (arith, inside)) (omega (arith, high)) one other c.entry_at-left_pivot.ensures.is c.entry_at-right_pivot.ensures.is) in (
      o + 1,
      omega (arith, low, from),
      omega (arith, high),
      left_of first o width (o + 1) c.columns.left.now _ (omega arith) lf (c.behind-left.ensures.rest width lf.sparse),
      left_of second o width (o + 1) c.columns.right.now _ (omega arith) rf (c.behind-right.ensures.rest width rf.sparse),
      λ j g up. elim (last_or_below o j up) [
        | inl e ↦ subst (λ z. ComparesAt (n + m) col z first second Equal) (sym e) equal
        | inr h ↦ before j g h
      ],
    )

pub returns : goal.returns
returns c =
    let t = c.args.table.now in
    let n = t.columns in
    let m = length t.basis.items in
    let first = shown t c.args.first in
    let second = shown t c.args.second in
    let col = c.args.column in
    let width = width_of t in
    let k = c.columns.invariant in
    let low = k.1 in
    let high = k.2 in
    let l = subst (λ z. IsRestOf first k.0 width z) c.in_default.ensures.0 k.3 in
    let r = subst (λ z. IsRestOf second k.0 width z) c.in_default.ensures.1 k.4 in
    differs_nowhere m n col first second c.requires.tied width (omega (arith, low, high))
    (none_differ m n col first second k.0 width (omega arith) k.5 (λ j g up. (left_none first k.0 width l j g, left_none second k.0 width r j g)))
    (omega arith)
