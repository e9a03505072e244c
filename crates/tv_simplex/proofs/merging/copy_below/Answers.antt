use Rattle.std.proofs.Common.{inr, ◌+◌, ◌<◌, arith, refl, subst, sym}
use Rattle.tv_simplex.specs.Rows.{ratio_of, IsSparse, BeginsFrom, IsMade, entry_in, IsTaken}
use Rattle.tv_simplex.proofs.RowLemmas.{sparse_from, first_and_others, begins_none, left_front, made_up, made_next, taken_same, taken_none}
use Rattle.tv_simplex.proofs.merging.copy_below.Goals as goal

pub returns-then-first-column : goal.returns-then-first-column
returns-then-first-column c =
    let e = c.first-item.result in
    let left = c.entries.left.now in
    let t = first_and_others left e (omega (arith, c.in-len1-up.len_at_least)) c.first-item.is in
    let begins : BeginsFrom left c.args.column = subst (λ z. BeginsFrom z c.args.column) (sym t) c.if-first-column.true in
    record {
      sparse = λ from width h. (let k = c.entries.invariant.0 from width h in sparse_from k.0 c.args.column width left k.1 begins);
      made = λ old pivots factor width from l w none h.
          let k = c.entries.invariant.1 old pivots factor width from l w none h in
          made_up (IsTaken old factor pivots) old width k.0 c.args.column left c.entries.made.items k.2 w begins k.3
          (λ j low up z. taken_none old factor pivots j (none j (let f = k.1 in omega (arith, f, low)) up) z);
    }

pub entries-preserved : goal.entries-preserved
entries-preserved c =
    let e = c.first-item.result in
    let t = first_and_others c.entries.left.now e (omega (arith, c.in-len1-up.len_at_least)) c.first-item.is in
    let high : e.column < c.args.column = c.if-first-column.false in (
      λ from width h. (let k = c.entries.invariant.0 from width h in (e.column + 1, (subst (λ z. IsSparse k.0 width z) t k.1).1)),
      λ old pivots factor width from l w none h.
          let k = c.entries.invariant.1 old pivots factor width from l w none h in
          let s = subst (λ z. IsMade (IsTaken old factor pivots) old width k.0 z c.entries.made.items) t k.3 in
          let here = s.left.sparse.0 in
          let low = here.from in
          let f = k.1 in (
            e.column + 1,
            omega (arith, f, low),
            omega (arith, high),
            made_next (IsTaken old factor pivots) old width k.0 e _ (ratio_of e) c.entries.made.items _ s
                (λ j g up z. taken_none old factor pivots j (none j (omega (arith, f, g)) (omega (arith, up, high))) z)
                (subst (IsTaken old factor pivots e.column) (left_front (entry_in old) k.0 width e _ s.left) (taken_same old factor pivots e.column (none e.column (omega (arith, f, low)) high)))
                (inr (here.nonzero, record { entry = e; column_is = refl; number_is = refl; appended = c.in_ok-push_item.ensures })),
          ),
    )

pub returns : goal.returns
returns c =
    let left = c.entries.left.now in
    let begins = begins_none left c.args.column (omega (arith, c.in_default.len_below)) in
    record {
      sparse = λ from width h. (let k = c.entries.invariant.0 from width h in sparse_from k.0 c.args.column width left k.1 begins);
      made = λ old pivots factor width from l w none h.
          let k = c.entries.invariant.1 old pivots factor width from l w none h in
          made_up (IsTaken old factor pivots) old width k.0 c.args.column left c.entries.made.items k.2 w begins k.3
          (λ j low up z. taken_none old factor pivots j (none j (let f = k.1 in omega (arith, f, low)) up) z);
    }
