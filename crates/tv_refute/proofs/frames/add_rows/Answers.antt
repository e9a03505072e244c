use Rattle.std.proofs.Common.{rules, arith, ◌<◌, length, get_or, pos, ◌∙◌, FitsSigned}
use Rattle.std.specs.Int.{w64, w128}
use Rattle.std.proofs.lemmas.Int.{to_z-of_z}
use Rattle.std.proofs.lemmas.List.{get_or_default}
use Rattle.tv_linear.specs.Falls.{zero_row}
use Rattle.tv_linear.specs.Views.{rows_seen}
use Rattle.tv_refute.proofs.Sums.{summed_next, summed_fails}
use Rattle.tv_refute.proofs.frames.add_rows.Goals as goal

pub returns-then-not-add_row_at-clause-told : goal.returns-then-not-add_row_at-clause-told
returns-then-not-add_row_at-clause-told c =
    let multiplier_fits : FitsSigned w64 (get_or c.args.multipliers.now c.loop-i.i (pos 0)) = search rules in
    let factor_fits : FitsSigned w128 (get_or c.args.multipliers.now c.loop-i.i (pos 0)) = search rules in
    let told = simp to_z-of_z at (simp c.from.ensures at c.if-not-add_row_at.ensures.told) in
    let inside : c.loop-i.i < length (rows_seen c.args.rows) = omega (arith, c.requires.many, c.loop-i-test.true) in
    let row = get_or (rows_seen c.args.rows) c.loop-i.i zero_row in
    summed_fails c.args.column c.args.count c.args.multipliers.now (rows_seen c.args.rows) c.args.totals.now c.loop-i.totals c.loop-i.i c.loop-i.invariant.sums c.requires.many c.loop-i-test.true row (get_or_default (rows_seen c.args.rows) c.loop-i.i zero_row row inside) c.add_row_at.new.totals c.add_row_at.new.totals told

pub loop-i-preserved : goal.loop-i-preserved
loop-i-preserved c =
    let multiplier_fits : FitsSigned w64 (get_or c.args.multipliers.now c.loop-i.i (pos 0)) = search rules in
    let factor_fits : FitsSigned w128 (get_or c.args.multipliers.now c.loop-i.i (pos 0)) = search rules in
    let told = simp to_z-of_z at (simp c.from.ensures at c.if-not-add_row_at.ensures.told) in
    let inside : c.loop-i.i < length (rows_seen c.args.rows) = omega (arith, c.requires.many, c.loop-i-test.true) in
    let row = get_or (rows_seen c.args.rows) c.loop-i.i zero_row in
    record {
      sums = summed_next c.args.column c.args.count c.args.multipliers.now (rows_seen c.args.rows) c.args.totals.now c.loop-i.totals c.loop-i.i c.loop-i.invariant.sums c.requires.many c.loop-i-test.true row (get_or_default (rows_seen c.args.rows) c.loop-i.i zero_row row inside) c.add_row_at.new.totals told;
      size = c.if-not-add_row_at.ensures.size ∙ c.loop-i.invariant.size;
    }
