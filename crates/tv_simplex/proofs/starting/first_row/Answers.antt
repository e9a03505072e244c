use Rattle.std.proofs.Common.{rules, FitsSigned, ◌+◌, ◌-◌, ◌*◌, arith, subst, sym, ap, ◌∙◌, ◌*ℤ◌}
use Rattle.std.specs.Int.{w128}
use Rattle.std.proofs.lemmas.Int.{to_z-of_z}
use Rattle.tv_simplex.specs.Systems.{entry_at, sign, matrix}
use Rattle.tv_simplex.specs.Outcomes.{IsNarrow}
use Rattle.tv_simplex.specs.Views.{equations}
use Rattle.tv_simplex.proofs.StartLemmas.{right_narrow, matrix_own, zero_under, zero_over}
use Rattle.tv_simplex.proofs.KeptLemmas.{first_of, next_kept, none_kept, matrix_zeros, first_narrow, first_matrix, zeros_joined}
use Rattle.tv_simplex.proofs.starting.first_row.Goals as goal
use Rattle.tv_simplex.proofs.Matrices.{matrix-right_is}

pub signed_in-number-requires-clause-narrow : goal.signed_in-number-requires-clause-narrow
signed_in-number-requires-clause-narrow c =
    let s = equations c.args.system.now in
    let k = c.kept.invariant in
    let n = next_kept (entry_at s c.args.row) (c.args.row * s.columns) k.0 s.columns c.kept.left.now c.in-len1-up.len_at_least k.2 in
    let f : FitsSigned w128 (first_of c.kept.left.now).number = search rules in
    subst (λ z. IsNarrow z) (sym (to_z-of_z w128 _ f)) (first_narrow s c.args.row k.0 _ _ _ c.requires.narrow c.requires.row n)

pub kept-preserved : goal.kept-preserved
kept-preserved c =
    let s = equations c.args.system.now in
    let row = c.args.row in
    let k = c.kept.invariant in
    let e = first_of c.kept.left.now in
    let column = e.place - row * s.columns in
    let n = next_kept (entry_at s row) (row * s.columns) k.0 s.columns c.kept.left.now c.in-len1-up.len_at_least k.2 in
    let below = n.below in
    let f : FitsSigned w128 e.number = search rules in
    let fs : FitsSigned w128 c.signed_in-number.result = search rules in
    let number = to_z-of_z w128 c.signed_in-number.result fs ∙ c.signed_in-number.ensures.value ∙ ap (λ z. sign s row *ℤ z) (to_z-of_z w128 e.number f) ∙ first_matrix s row k.0 column e.number _ n in (
      column + 1,
      omega (arith, below),
      n.behind,
      c.in_ok-put_number.ensures (matrix s row) k.0 n.from (sym number) (matrix_zeros s row k.0 column (omega (arith, below)) n.zeros) k.3,
    )

pub signed_in-right-requires-clause-narrow : goal.signed_in-right-requires-clause-narrow
signed_in-right-requires-clause-narrow c =
    let f : FitsSigned w128 c.right_at.result = search rules in
    subst (λ z. IsNarrow z) (sym (to_z-of_z w128 c.right_at.result f ∙ c.right_at.ensures)) (right_narrow (equations c.args.system.now) c.args.row c.requires.narrow c.requires.row)

pub returns : goal.returns
returns c =
    let s = equations c.args.system.now in
    let row = c.args.row in
    let l = c.requires.row in
    let k = c.kept.invariant in
    let within = k.1 in
    let fr : FitsSigned w128 c.right_at.result = search rules in
    let fs : FitsSigned w128 c.signed_in-right.result = search rules in
    let zeros = none_kept (entry_at s row) (row * s.columns) k.0 s.columns c.kept.left.now c.in_default.len_below k.2 in
    let under = zeros_joined (matrix s row) k.0 s.columns (s.columns + row) (matrix_zeros s row k.0 s.columns (omega arith) zeros) (zero_under s row l) in
    let own = c.in_ok-put_number-2.ensures (matrix s row) k.0 (omega (arith, within)) (matrix_own s row (s.columns + row) l (λ i. s.columns + row)) under k.3 in
    let number = to_z-of_z w128 c.signed_in-right.result fs ∙ c.signed_in-right.ensures.value ∙ ap (λ z. sign s row *ℤ z) (to_z-of_z w128 c.right_at.result fr ∙ c.right_at.ensures) ∙ sym (matrix-right_is s row) in
    c.in_ok-put_number-3.ensures (matrix s row) (s.columns + row + 1) (omega (arith, l)) (sym number) (zero_over s row l) own
