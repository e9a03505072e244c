use Rattle.std.proofs.Common.{◌+◌, ◌*◌, ◌^◌, ◌≤◌, sym, arith, rules, ap, FitsSigned, ◌+ℤ◌}
use Rattle.std.specs.Prelude.{unsigned_abs}
use Rattle.std.specs.Int.{w128}
use mir.Val.{to_z}
use Rattle.std.proofs.lemmas.Int.{to_z-of_z, ints}
use Rattle.tv_linear.specs.Linear.{IsWithin}
use Rattle.tv_linear.proofs.PlainLists.{get_or-zeros}
use Rattle.tv_causes.proofs.JoinLemmas.{sum_more}
use Rattle.tv_causes.proofs.join.sum_at.Goals as goal

pub rows-init : goal.rows-init
rows-init c = record { is = sym (get_or-zeros c.args.variables c.args.column); small = omega arith }

pub rows-preserved : goal.rows-preserved
rows-preserved c =
    let sum = to_z w128 c.rows.sum-bits in
    let number = c.entry-sum.result in
    let number_fits : FitsSigned w128 c.entry-sum.result = search rules in
    let so_far : unsigned_abs sum ≤ c.rows.row-index * 2 ^ 62 = c.rows.invariant.small in
    let narrow : IsWithin 62 c.entry-sum.result = c.entry-sum.ensures.narrow in
    let small : unsigned_abs (sum +ℤ number) ≤ (c.rows.row-index + 1) * 2 ^ 62 = omega (arith, ints, so_far, narrow) in
    let fits : FitsSigned w128 (sum +ℤ number) = search rules in
    simp to_z-of_z (record {
      is = sum_more c.args.variables c.args.column c.args.rows.now c.rows.row-index c.row-item.result sum (sum +ℤ number) c.requires.even c.rows-test.true c.row-item.is c.rows.invariant.is (ap (λ z. sum +ℤ z) c.entry-sum.ensures.is);
      small = small;
    })
