use Rattle.std.proofs.Common.{arith, rules, get_or, pos, refl, FitsSigned}
use Rattle.std.specs.Int.{w64}
use Rattle.std.proofs.lemmas.Int.{ints, to_z-of_z}
use Rattle.tv_reaching.proofs.ValueLemmas.{dot_first}
use Rattle.tv_reaching.proofs.exact.+dot_from.Goals as goal

pub returns-in-len1-up-numbers-clause-exact : goal.returns-in-len1-up-numbers-clause-exact
returns-in-len1-up-numbers-clause-exact t c =
    let a = c.dot_from.ensures.exact in
    let b = c.plus_product-sum.ensures.exact in
    let d = dot_first c.args.factors.now c.args.numbers.now (get_or c.args.factors.now 0 (pos 0)) (get_or c.args.numbers.now 0 (pos 0)) c.in-len1-up.len_at_least c.in-len1-up-numbers.len_at_least refl refl in
    let fc : FitsSigned w64 (get_or c.args.factors.now 0 (pos 0)) = search rules in
    let fx : FitsSigned w64 (get_or c.args.numbers.now 0 (pos 0)) = search rules in
    let b2 = simp to_z-of_z at b in
    omega (arith, ints, a, b2, d)
