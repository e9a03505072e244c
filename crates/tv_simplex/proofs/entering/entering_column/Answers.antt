use Rattle.std.proofs.Common.{inl, inr, ◌∷◌, ◌+◌, pos, ◌<ℤ◌, ◌≤ℤ◌, arith, subst, sym, ◌∙◌}
use Rattle.std.proofs.lemmas.Int.{ints}
use Rattle.tv_simplex.specs.Rows.{IsRestOf}
use Rattle.tv_simplex.specs.Tables.{shown, width_of}
use Rattle.tv_simplex.proofs.RowLemmas.{first_and_others, left_front, left_gap, left_behind, not_negative, tested_true, tested_false}
use Rattle.tv_simplex.proofs.entering.entering_column.Goals as goal
use Rattle.tv_linear.proofs.ListLaws.{last_or_below}
use Rattle.std.proofs.lemmas.Bool.{cases_lt}

pub returns-then-column-table : goal.returns-then-column-table
returns-then-column-table c = λ j l.
    let row = shown c.args.table.now c.args.objective in
    let width = width_of c.args.table.now in
    let e = c.first-item.result in
    let k = c.entries.invariant in
    let q = subst (λ z. IsRestOf row k.0 width z) (first_and_others c.entries.left.now e (omega (arith, c.in-len1-up.len_at_least)) c.first-item.is) k.1 in
    let low = q.sparse.0.from in
    elim (cases_lt j k.0) [
      | inl g ↦ k.2 j g
      | inr g ↦ subst (λ z. pos 0 ≤ℤ z.numerator) (sym (left_gap row k.0 width e.column (e ∷ _) low (omega arith) q j g (let h = c.if-column-table.true in omega (arith, h, l)))) (omega (arith, ints))
    ]

pub returns-then-is_negative : goal.returns-then-is_negative
returns-then-is_negative c =
    let row = shown c.args.table.now c.args.objective in
    let width = width_of c.args.table.now in
    let e = c.first-item.result in
    let k = c.entries.invariant in
    let q = subst (λ z. IsRestOf row k.0 width z) (first_and_others c.entries.left.now e (omega (arith, c.in-len1-up.len_at_least)) c.first-item.is) k.1 in
    let low = q.sparse.0.from in
    record {
      within = c.if-column-table.false;
      negative = subst (λ z. z.numerator <ℤ pos 0) (c.fraction_of.ensures.is ∙ sym (left_front row k.0 width e _ q)) (tested_true c.is_negative.result c.is_negative.ensures c.if-is_negative.true);
      first = λ j l. elim (cases_lt j k.0) [
        | inl g ↦ k.2 j g
        | inr g ↦ subst (λ z. pos 0 ≤ℤ z.numerator) (sym (left_gap row k.0 width e.column (e ∷ _) low (omega arith) q j g l)) (omega (arith, ints))
      ];
    }

pub entries-preserved : goal.entries-preserved
entries-preserved c =
    let row = shown c.args.table.now c.args.objective in
    let width = width_of c.args.table.now in
    let e = c.first-item.result in
    let k = c.entries.invariant in
    let q = subst (λ z. IsRestOf row k.0 width z) (first_and_others c.entries.left.now e (omega (arith, c.in-len1-up.len_at_least)) c.first-item.is) k.1 in
    let low = q.sparse.0.from in (
      e.column + 1,
      left_behind row k.0 width e _ q,
      λ j l. elim (last_or_below e.column j l) [
        | inl g ↦ subst (λ z. pos 0 ≤ℤ (row z).numerator) (sym g) (subst (λ z. pos 0 ≤ℤ z.numerator) (c.fraction_of.ensures.is ∙ sym (left_front row k.0 width e _ q)) (not_negative c.fraction_of.result.numerator (tested_false c.is_negative.result c.is_negative.ensures c.if-is_negative.false)))
        | inr h ↦ elim (cases_lt j k.0) [
          | inl g ↦ k.2 j g
          | inr g ↦ subst (λ z. pos 0 ≤ℤ z.numerator) (sym (left_gap row k.0 width e.column (e ∷ _) low (omega arith) q j g h)) (omega (arith, ints))
        ]
      ],
    )
