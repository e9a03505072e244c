use Rattle.std.proofs.Common.{◌≡◌, ◌+◌, ◌++◌, ◌∷◌, [], arith, sym, ap, ◌∙◌}
use Rattle.tv_linear.specs.Arithmetic.{column_row}
use Rattle.tv_cases.specs.EdgeCases.{columns_from}
use Rattle.tv_recur.proofs.making.variable_rows.Goals as goal
use Rattle.tv_cases.proofs.CodeForms.{columns_from-more}

pub variables-preserved : goal.variables-preserved
variables-preserved c =
    let n = c.args.columns in
    let v = c.variables.variable in
    c.in_ok-push_item.ensures
    ∙ (λ i. c.variables.invariant i ++ c.in_ok-column.ensures i ∷ [])
    ∙ sym (columns_from-more n 0 v ∙ ap (λ k. columns_from n 0 v ++ column_row n k ∷ []) (let e : 0 + v ≡ v = omega arith in e))
