use Rattle.std.proofs.Common.{rules, get_or, pos, FitsSigned}
use Rattle.std.specs.Int.{w64, w128}
use Rattle.std.proofs.lemmas.Int.{to_z-of_z}
use Rattle.tv_trace.proofs.SumLemmas.{summed-next}
use Rattle.tv_trace.proofs.sums.+dot_from.Goals as goal

pub returns-in-Some : goal.returns-in-Some
returns-in-Some t c =
    let coefficient_fits : FitsSigned w64 (get_or c.args.coefficients.now 0 (pos 0)) = search rules in
    let number_fits : FitsSigned w128 (get_or c.args.numbers.now 0 (pos 0)) = search rules in
    let total_fits : FitsSigned w128 c.args.total = search rules in
    let sum_fits : FitsSigned w128 c.in-Some.sum = search rules in
    let here = simp to_z-of_z at c.in-Some.ensures in
    let later = simp to_z-of_z at c.dot_from.ensures in
    summed-next c.args.total c.in-Some.sum c.args.coefficients.now c.args.numbers.now c.dot_from.result c.in-len1-up.len_at_least c.in-len1-up-numbers.len_at_least here later
