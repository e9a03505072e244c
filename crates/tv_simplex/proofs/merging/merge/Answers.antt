use Rattle.std.proofs.Common.{◌∷◌, ◌+◌, arith, subst}
use Rattle.std.proofs.lemmas.Option.{MatchOption-at_none, MatchOption-at_some}
use Rattle.tv_simplex.specs.Rows.{ratio, entry_in, IsRestOf, IsTakenOnce, IsWideOnce}
use Rattle.tv_simplex.proofs.RowLemmas.{first_and_others, left_front, left_gap, left_behind, left_ends}
use Rattle.tv_simplex.proofs.merging.merge.Goals as goal

pub returns-in-None : goal.returns-in-None
returns-in-None c =
    let old = c.args.row.now in
    let f = ratio c.args.factor.now in
    let ps = c.args.pivots.now in
    let width = c.args.width in
    let e = c.pivot-item.result in
    let k = c.pivots.invariant in
    let q = subst (λ z. IsRestOf (entry_in ps) k.0 width z) (first_and_others c.pivots.next.now e (omega (arith, c.in-len1-up.len_at_least)) c.pivot-item.is) k.2 in
    let low = q.sparse.0.from in
    MatchOption-at_none (IsWideOnce f e c.pivots.left.now c.pivots.made.items) (λ left. IsTakenOnce f e c.pivots.left.now c.pivots.made.items left.now c.take_entry.new.made.items) c.in-None.is c.in_ok-take_entry.ensures
    old ps width k.0 record { from = low; below = q.sparse.0.below; none_before = left_gap (entry_in ps) k.0 width e.column (e ∷ _) low (omega arith) q; is = left_front (entry_in ps) k.0 width e _ q } k.1

pub pivots-preserved : goal.pivots-preserved
pivots-preserved c =
    let old = c.args.row.now in
    let f = ratio c.args.factor.now in
    let ps = c.args.pivots.now in
    let width = c.args.width in
    let e = c.pivot-item.result in
    let k = c.pivots.invariant in
    let q = subst (λ z. IsRestOf (entry_in ps) k.0 width z) (first_and_others c.pivots.next.now e (omega (arith, c.in-len1-up.len_at_least)) c.pivot-item.is) k.2 in
    let low = q.sparse.0.from in (
      e.column + 1,
      MatchOption-at_some (IsWideOnce f e c.pivots.left.now c.pivots.made.items) (λ left. IsTakenOnce f e c.pivots.left.now c.pivots.made.items left.now c.take_entry.new.made.items) c.in-Some.behind c.in-Some.is c.in_ok-take_entry.ensures
          old ps width k.0 record { from = low; below = q.sparse.0.below; none_before = left_gap (entry_in ps) k.0 width e.column (e ∷ _) low (omega arith) q; is = left_front (entry_in ps) k.0 width e _ q } k.1,
      left_behind (entry_in ps) k.0 width e _ q,
    )

pub returns : goal.returns
returns c =
    let k = c.pivots.invariant in
    let none = left_ends (entry_in c.args.pivots.now) k.0 c.args.width c.pivots.next.now (omega (arith, c.in_default.len_below)) k.2 in
    (c.in_ok-copy_below.ensures.made c.args.row.now c.args.pivots.now (ratio c.args.factor.now) c.args.width k.0 k.1.within (omega arith) (λ j low up. none j low) k.1).made
