use Rattle.std.proofs.Common.{rules, ap, ◌∙◌, get_or, FitsSigned}
use Rattle.std.specs.Int.{w128}
use Rattle.std.proofs.lemmas.Int.{to_z-of_z}
use Rattle.std.proofs.lemmas.List.{get_or_default}
use Rattle.tv_linear.specs.Falls.{zero_row}
use Rattle.tv_linear.specs.Known.{number}
use Rattle.tv_linear.specs.Views.{row_seen, rows_seen}
use Rattle.tv_refute.specs.Blocks.{further}
use Rattle.tv_refute.proofs.Telling.{AreTold_added}
use Rattle.tv_refute.proofs.frames.add_row_at.Goals as goal

pub returns-clause-told : goal.returns-clause-told
returns-clause-told c =
    let factor_fits : FitsSigned w128 c.args.factor = search rules in
    let told = simp to_z-of_z at c.add_row.ensures.told in
    let is = c.row.ensures ∙ get_or_default (rows_seen c.args.rows) c.args.i (row_seen c.row.result) zero_row c.requires.inside in
    AreTold_added c.add_row.result c.args.count c.args.factor (λ k. number (further c.args.column k) (row_seen c.row.result)) (λ k. number (further c.args.column k) (get_or (rows_seen c.args.rows) c.args.i zero_row)) c.args.totals.now c.add_row.new.totals
    (λ k. ap (number (further c.args.column k)) is) told
