use Rattle.std.proofs.Common.{rules, sym, ap, ◌∙◌, FitsSigned, take, get_or, length, ◌-◌, pos, ◌∷◌, [], ◌++◌}
use Rattle.std.specs.Int.{w64, w128}
use Rattle.std.proofs.lemmas.Int.{to_z-of_z}
use Rattle.tv_linear.specs.Known.{as_given}
use Rattle.tv_refute.specs.Built.{built}
use Rattle.tv_refute.specs.Frames.{known_at}
use Rattle.tv_linear.specs.Views.{rows_seen}
use Rattle.tv_refute.proofs.Sums.{above_fails, rest_is, given_rest, one_rest, split_is, at_rows, rows_many, at_more, more_many, more_split}
use Rattle.tv_refute.proofs.frames.+sums_at.Goals as goal

pub returns-then-not-sums_at-clause-told : goal.returns-then-not-sums_at-clause-told
returns-then-not-sums_at-clause-told t c =
    let ms = c.args.multipliers.now in
    let rows = rows_seen c.in-Rows.rows in
    let above = c.in-Rows.above.now in
    let front = c.split_at.ensures.front in
    let back = c.split_at.ensures.back in
    above_fails c.args.column c.args.count (known_at c.args.frames.now) (known_at above) (as_given rows) ms c.split_at.result.0.now c.split_at.result.1.now (at_rows c.args.frames.now ms c.requires.many c.in-Rows.rows c.in-Rows.above c.in-Rows.is) (split_is ms (length ms - c.len.result) ∙ (λ i. sym front i ++ sym back i)) (ap length front ∙ ap (λ n. length (take (length ms - n) ms)) c.len.ensures.counted ∙ rows_many c.args.frames.now ms c.requires.many c.in-Rows.rows c.in-Rows.above c.in-Rows.is) c.sums_at.new.totals c.sums_at.new.totals c.if-not-sums_at.ensures.told

pub returns-else-not-sums_at-clause-told : goal.returns-else-not-sums_at-clause-told
returns-else-not-sums_at-clause-told t c =
    let ms = c.args.multipliers.now in
    let rows = rows_seen c.in-Rows.rows in
    let above = c.in-Rows.above.now in
    let front = c.split_at.ensures.front in
    let back = c.split_at.ensures.back in
    rest_is c.args.column c.args.count (known_at c.args.frames.now) (known_at above) (as_given rows) ms c.split_at.result.0.now c.split_at.result.1.now (at_rows c.args.frames.now ms c.requires.many c.in-Rows.rows c.in-Rows.above c.in-Rows.is) (split_is ms (length ms - c.len.result) ∙ (λ i. sym front i ++ sym back i)) (ap length front ∙ ap (λ n. length (take (length ms - n) ms)) c.len.ensures.counted ∙ rows_many c.args.frames.now ms c.requires.many c.in-Rows.rows c.in-Rows.above c.in-Rows.is) c.add_rows.result c.sums_at.new.totals c.add_rows.new.totals c.if-not-sums_at.ensures.told
    (given_rest c.args.column c.args.count c.sums_at.new.totals c.split_at.result.1.now rows c.add_rows.result c.add_rows.new.totals c.add_rows.ensures.told)

pub returns-then-not-sums_at-2-clause-told : goal.returns-then-not-sums_at-2-clause-told
returns-then-not-sums_at-2-clause-told t c =
    let ms = c.args.multipliers.now in
    let above = c.in-More.above.now in
    above_fails c.args.column c.args.count (known_at c.args.frames.now) (known_at above) (built c.in-More.row.now ∷ []) ms (take (length ms - 1) ms) (get_or ms (length ms - 1) (pos 0) ∷ []) (at_more c.args.frames.now ms c.requires.many c.in-More.row c.in-More.above c.in-More.is) (more_split c.args.frames.now ms c.requires.many c.in-More.row c.in-More.above c.in-More.is) (more_many c.args.frames.now ms c.requires.many c.in-More.row c.in-More.above c.in-More.is) c.sums_at-in-len1-up.new.totals c.sums_at-in-len1-up.new.totals c.if-not-sums_at-2.ensures.told

pub returns-else-not-sums_at-2-clause-told : goal.returns-else-not-sums_at-2-clause-told
returns-else-not-sums_at-2-clause-told t c =
    let ms = c.args.multipliers.now in
    let above = c.in-More.above.now in
    let short_fits : FitsSigned w64 (get_or ms (length ms - 1) (pos 0)) = search rules in
    let multiplier_fits : FitsSigned w128 (get_or ms (length ms - 1) (pos 0)) = search rules in
    let told = simp to_z-of_z at (simp c.from.ensures at c.add_known.ensures.told) in
    rest_is c.args.column c.args.count (known_at c.args.frames.now) (known_at above) (built c.in-More.row.now ∷ []) ms (take (length ms - 1) ms) (get_or ms (length ms - 1) (pos 0) ∷ []) (at_more c.args.frames.now ms c.requires.many c.in-More.row c.in-More.above c.in-More.is) (more_split c.args.frames.now ms c.requires.many c.in-More.row c.in-More.above c.in-More.is) (more_many c.args.frames.now ms c.requires.many c.in-More.row c.in-More.above c.in-More.is) c.add_known.result c.sums_at-in-len1-up.new.totals c.add_known.new.totals c.if-not-sums_at-2.ensures.told
    (one_rest c.args.column c.args.count c.sums_at-in-len1-up.new.totals (get_or ms (length ms - 1) (pos 0)) (built c.in-More.row.now) c.add_known.result c.add_known.new.totals told)
