use Rattle.std.proofs.Common.{arith, rules, ap, sym, ◌∙◌, length, ◌<◌, ◌^◌}
use Rattle.tv_linear.specs.Packed.{first_row}
use Rattle.tv_linear.specs.Views.{row_seen}
use Rattle.tv_linear.proofs.PackedLemmas.{length-unpacked, get_or-unpacked, row_ends}
use Rattle.tv_linear.proofs.packed.PackedRows.row.Goals as goal

pub overflow_mul-i : goal.overflow_mul-i
overflow_mul-i c =
    let rows = c.args.self in
    let bounded : length c.args.self.numbers.now < 2 ^ 64 = search rules in
    let ends = row_ends rows.columns rows.count c.args.i rows.numbers.now rows.packed.enough (omega (arith, c.requires, length-unpacked rows.columns rows.count rows.numbers.now)) in
    omega (arith, bounded, ends)

pub split_at-requires : goal.split_at-requires
split_at-requires c =
    let rows = c.args.self in
    let ends = row_ends rows.columns rows.count c.args.i rows.numbers.now rows.packed.enough (omega (arith, c.requires, length-unpacked rows.columns rows.count rows.numbers.now)) in
    omega (arith, ends)

pub first_row-requires-clause-long : goal.first_row-requires-clause-long
first_row-requires-clause-long c =
    let rows = c.args.self in
    let ends = row_ends rows.columns rows.count c.args.i rows.numbers.now rows.packed.enough (omega (arith, c.requires, length-unpacked rows.columns rows.count rows.numbers.now)) in
    omega (arith, ends, c.split_at.ensures.back_len)

pub returns : goal.returns
returns c =
    let rows = c.args.self in
    c.first_row.ensures ∙ ap (first_row rows.columns) c.split_at.ensures.back ∙ sym (get_or-unpacked rows.columns rows.count rows.numbers.now c.args.i (row_seen c.first_row.result) (omega (arith, c.requires, length-unpacked rows.columns rows.count rows.numbers.now)))
