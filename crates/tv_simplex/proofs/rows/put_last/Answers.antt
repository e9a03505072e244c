use Rattle.std.proofs.Common.{◌≡◌, inl, inr, [], ◌∷◌, ◌++◌, refl, sym}
use Rattle.std.proofs.lemmas.Result.{IfOk-weaker}
use Rattle.tv_simplex.specs.declared.rows.Entry.{Entry}
use Rattle.tv_simplex.specs.Rows.{ratio, IsPut}
use Rattle.tv_simplex.proofs.RowLemmas.{zero_is_none, tested_true, tested_false}
use Rattle.tv_simplex.proofs.rows.put_last.Goals as goal

pub returns-then-is_zero : goal.returns-then-is_zero
returns-then-is_zero c = inl (zero_is_none c.args.fraction (tested_true c.is_zero.result c.is_zero.ensures c.if-is_zero.true), refl)

pub returns : goal.returns
returns c =
    let old = c.args.row.now.items in
    let new = c.push_item.new.items.items in
    let f = c.args.fraction in
    let e : Entry = record { column = c.args.column; number = c.new.result } in
    let n = c.new.ensures in
    IfOk-weaker c.push_item.result (λ x. new ≡ old ++ e ∷ []) (λ x. IsPut c.args.column (ratio f) old new)
    (λ x is. inr (tested_false c.is_zero.result c.is_zero.ensures c.if-is_zero.false, record { entry = e; column_is = refl; number_is = λ i. record { numerator = sym n.0 i; denominator = sym n.1 i }; appended = is }))
    c.push_item.ensures
