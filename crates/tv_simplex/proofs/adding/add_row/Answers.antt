use Rattle.std.proofs.Common.{rules, FitsSigned, ◌+◌, ◌-◌, ◌*◌, get_or, arith, subst, sym, ap, ◌∙◌, pos, ◌+ℤ◌, ◌*ℤ◌}
use Rattle.std.specs.Int.{w128}
use Rattle.std.proofs.lemmas.Int.{to_z-of_z}
use Rattle.tv_simplex.specs.Systems.{entry_at, sign, matrix}
use Rattle.tv_simplex.specs.Outcomes.{IsNarrow}
use Rattle.tv_simplex.specs.Views.{equations}
use Rattle.tv_simplex.proofs.AddingLemmas.{SumsTo, one_added, none_added, all_added, slot_inside, slot_last}
use Rattle.tv_simplex.proofs.StartLemmas.{right_narrow}
use Rattle.tv_simplex.proofs.KeptLemmas.{first_of, next_kept, none_kept, matrix_zeros, first_narrow, first_matrix}
use Rattle.tv_simplex.proofs.adding.add_row.Goals as goal
use Rattle.tv_simplex.proofs.Matrices.{matrix-right_is}

pub signed_in-number-requires-clause-narrow : goal.signed_in-number-requires-clause-narrow
signed_in-number-requires-clause-narrow c =
    let s = equations c.args.system.now in
    let k = c.kept.invariant in
    let n = next_kept (entry_at s c.args.row) (c.args.row * s.columns) k.0 s.columns c.kept.left.now c.in-len1-up.len_at_least k.2 in
    let f : FitsSigned w128 (first_of c.kept.left.now).number = search rules in
    subst (λ z. IsNarrow z) (sym (to_z-of_z w128 _ f)) (first_narrow s c.args.row k.0 _ _ _ c.requires.narrow c.requires.row n)

pub kept-preserved : goal.kept-preserved
kept-preserved c =
    let s = equations c.args.system.now in
    let start = c.args.row * s.columns in
    let k = c.kept.invariant in
    let e = first_of c.kept.left.now in
    let column = e.place - start in
    let n = next_kept (entry_at s c.args.row) start k.0 s.columns c.kept.left.now c.in-len1-up.len_at_least k.2 in
    let below = n.below in
    let f : FitsSigned w128 e.number = search rules in
    let fs : FitsSigned w128 c.signed_in-number.result = search rules in
    let skipped = none_added s c.args.row k.0 column c.kept.sums (omega (arith, below)) (matrix_zeros s c.args.row k.0 column (omega (arith, below)) n.zeros) n.from k.3 in
    let number = to_z-of_z w128 c.signed_in-number.result fs ∙ c.signed_in-number.ensures.value ∙ ap (λ z. sign s c.args.row *ℤ z) (to_z-of_z w128 e.number f) ∙ first_matrix s c.args.row k.0 column e.number _ n ∙ ap (matrix s c.args.row) (sym (slot_inside s column below)) in
    let size = k.3.size in (
      column + 1,
      omega (arith, below),
      n.behind,
      subst (λ xs. SumsTo s c.args.row (column + 1) xs) (sym c.add_at.ensures.value)
          (one_added s c.args.row column c.kept.sums _ (omega (arith, below, size)) skipped (ap (λ z. get_or c.kept.sums column (pos 0) +ℤ z) number) c.add_at.ensures.bound),
    )

pub signed_in-right-requires-clause-narrow : goal.signed_in-right-requires-clause-narrow
signed_in-right-requires-clause-narrow c =
    let f : FitsSigned w128 c.right_at.result = search rules in
    subst (λ z. IsNarrow z) (sym (to_z-of_z w128 c.right_at.result f ∙ c.right_at.ensures)) (right_narrow (equations c.args.system.now) c.args.row c.requires.narrow c.requires.row)

pub returns : goal.returns
returns c =
    let s = equations c.args.system.now in
    let start = c.args.row * s.columns in
    let k = c.kept.invariant in
    let fr : FitsSigned w128 c.right_at.result = search rules in
    let fs : FitsSigned w128 c.signed_in-right.result = search rules in
    let zeros = none_kept (entry_at s c.args.row) start k.0 s.columns c.kept.left.now c.in_default.len_below k.2 in
    let skipped = none_added s c.args.row k.0 s.columns c.kept.sums (omega arith) (matrix_zeros s c.args.row k.0 s.columns (omega arith) zeros) k.1 k.3 in
    let number = to_z-of_z w128 c.signed_in-right.result fs ∙ c.signed_in-right.ensures.value ∙ ap (λ z. sign s c.args.row *ℤ z) (to_z-of_z w128 c.right_at.result fr ∙ c.right_at.ensures) ∙ sym (matrix-right_is s c.args.row) ∙ ap (matrix s c.args.row) (sym (slot_last s)) in
    let size = k.3.size in
    all_added s c.args.row _
    (subst (λ xs. SumsTo s c.args.row (s.columns + 1) xs) (sym c.add_at-2.ensures.value)
    (one_added s c.args.row s.columns c.kept.sums _ (omega (arith, size)) skipped (ap (λ z. get_or c.kept.sums s.columns (pos 0) +ℤ z) number) c.add_at-2.ensures.bound))
