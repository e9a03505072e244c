use Rattle.std.proofs.Common.{rules, get_or, pos, ◌+ℤ◌, ◌*ℤ◌, FitsSigned}
use Rattle.std.specs.Int.{w128}
use Rattle.std.proofs.lemmas.Int.{to_z-of_z}
use Rattle.tv_linear.specs.Known.{number}
use Rattle.tv_refute.specs.Blocks.{further, IsAddedHeld}
use Rattle.tv_linear.specs.Views.{row_seen}
use Rattle.tv_refute.proofs.Telling.{AreTold_added, AreTold_plain, tail_number, constant_number}
use Rattle.tv_refute.proofs.blocks.add_row.Goals as goal

pub returns-in-None-clause-told : goal.returns-in-None-clause-told
returns-in-None-clause-told c =
    let fits : FitsSigned w128 c.constant.result = search rules in
    let factor_fits : FitsSigned w128 c.args.factor = search rules in
    let w = simp to_z-of_z at c.add_each.ensures.told in
    AreTold_added c.add_each.result c.args.count c.args.factor (λ k. c.constant.result) (λ k. number (further c.args.column k) (row_seen c.args.row)) c.args.totals.now c.add_each.new.totals
    (constant_number (row_seen c.args.row) c.args.column c.constant.result c.in-None.is c.constant.ensures.is)
    (AreTold_plain c.add_each.result c.args.count (λ k. IsAddedHeld (get_or c.args.totals.now k (pos 0)) c.args.factor c.constant.result) (λ k. get_or c.args.totals.now k (pos 0) +ℤ c.args.factor *ℤ c.constant.result) c.add_each.new.totals w)

pub returns-in-Some-clause-told : goal.returns-in-Some-clause-told
returns-in-Some-clause-told c =
    let factor_fits : FitsSigned w128 c.args.factor = search rules in
    let w = simp to_z-of_z at c.add_each-in-Some.ensures.told in
    AreTold_added c.add_each-in-Some.result c.args.count c.args.factor (λ k. get_or c.tail.result.now k (pos 0)) (λ k. number (further c.args.column k) (row_seen c.args.row)) c.args.totals.now c.add_each-in-Some.new.totals
    (tail_number (row_seen c.args.row) c.args.column c.in-Some.j c.coefficients.result.now c.tail.result.now c.in-Some.is c.coefficients.ensures.is c.tail.ensures)
    (AreTold_plain c.add_each-in-Some.result c.args.count (λ k. IsAddedHeld (get_or c.args.totals.now k (pos 0)) c.args.factor (get_or c.tail.result.now k (pos 0))) (λ k. get_or c.args.totals.now k (pos 0) +ℤ c.args.factor *ℤ get_or c.tail.result.now k (pos 0)) c.add_each-in-Some.new.totals w)
