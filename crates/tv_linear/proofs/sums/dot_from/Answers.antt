use Rattle.std.proofs.Common.{◌≡◌, arith, rules, get_or, pos, FitsSigned}
use Rattle.std.specs.Int.{w64, w128}
use mir.Val.{to_z}
use Rattle.std.proofs.lemmas.Int.{to_z-of_z}
use Rattle.tv_linear.proofs.Summing.{held_here, one_summed}
use Rattle.tv_linear.proofs.sums.dot_from.Goals as goal

pub returns-in-None : goal.returns-in-None
returns-in-None g c k =
    let listed_fits : FitsSigned w64 (get_or c.args.factors.now c.loop-i.i (pos 0)) = search rules in
    let factor_fits : FitsSigned w128 c.from.result = search rules in
    let factor_is : c.from.result ≡ get_or c.args.factors.now c.loop-i.i (pos 0) = simp to_z-of_z at c.from.ensures in
    let number_fits : FitsSigned w128 c.number.result = search rules in
    let start_fits : FitsSigned w128 c.args.start = search rules in
    let so_far = simp to_z-of_z at c.loop-i.invariant in
    let never = simp to_z-of_z at c.in-None.ensures in
    let held = held_here c.args.factors.now (g.N.Numbers.numbers c.args.numbers.now) c.args.start (to_z w128 c.loop-i.total-bits) c.loop-i.i so_far c.from.result c.number.result (omega arith) (omega arith) factor_is c.number.ensures k in
    never (held.0, held.1)

pub loop-i-preserved : goal.loop-i-preserved
loop-i-preserved g c =
    let listed_fits : FitsSigned w64 (get_or c.args.factors.now c.loop-i.i (pos 0)) = search rules in
    let factor_fits : FitsSigned w128 c.from.result = search rules in
    let factor_is : c.from.result ≡ get_or c.args.factors.now c.loop-i.i (pos 0) = simp to_z-of_z at c.from.ensures in
    let number_fits : FitsSigned w128 c.number.result = search rules in
    let start_fits : FitsSigned w128 c.args.start = search rules in
    let sum_fits : FitsSigned w128 c.in-Some.sum = search rules in
    let so_far = simp to_z-of_z at c.loop-i.invariant in
    let here = simp to_z-of_z at c.in-Some.ensures in
    simp to_z-of_z (one_summed c.args.factors.now (g.N.Numbers.numbers c.args.numbers.now) c.args.start (to_z w128 c.loop-i.total-bits) c.loop-i.i so_far c.from.result c.number.result (omega arith) (omega arith) factor_is c.number.ensures c.in-Some.sum here.0.0 here.0.1 here.1)
