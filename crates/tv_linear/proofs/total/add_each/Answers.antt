use Rattle.std.proofs.Common.{◌≡◌, ◌∙◌, ap, ◌+◌, ◌*◌, ◌^◌, ◌≤◌, ◌+ℤ◌, arith, rules, get_or, pos, FitsSigned}
use Rattle.std.specs.Int.{w64, w128}
use Rattle.std.specs.Prelude.{unsigned_abs}
use Rattle.std.proofs.lemmas.Int.{to_z-of_z}
use Rattle.std.proofs.lemmas.List.Elements.{All-from_get_or}
use Rattle.tv_linear.proofs.Adding.{one_added, all_added, small-more}
use Rattle.tv_linear.proofs.total.add_each.Goals as goal

pub loop-i-preserved : goal.loop-i-preserved
loop-i-preserved c =
    let sum = c.one_more.result in
    let fits : FitsSigned w128 c.one_more.result = search rules in
    let total_fits : FitsSigned w128 (get_or c.loop-i.totals c.loop-i.i (pos 0)) = search rules in
    let listed_fits : FitsSigned w64 (get_or c.args.numbers.now c.loop-i.i (pos 0)) = search rules in
    let number_fits : FitsSigned w128 c.from.result = search rules in
    let number_is : c.from.result ≡ get_or c.args.numbers.now c.loop-i.i (pos 0) = simp to_z-of_z at c.from.ensures in
    let sum_is : c.one_more.result ≡ get_or c.loop-i.totals c.loop-i.i (pos 0) +ℤ c.from.result = simp to_z-of_z at c.one_more.ensures.exact in
    let is = sum_is ∙ ap (λ z. get_or c.loop-i.totals c.loop-i.i (pos 0) +ℤ z) number_is in
    rw (to_z-of_z w128 c.one_more.result fits) (record {
      added = one_added c.args.totals.now c.args.numbers.now c.loop-i.totals c.loop-i.i c.loop-i.invariant.added sum c.loop-i-test.true is;
      small = small-more ((c.args.parts + 1) * 2 ^ 62) c.loop-i.totals c.loop-i.i sum (omega arith) c.loop-i.invariant.small c.one_more.ensures.small;
    })

pub returns-clause-exact : goal.returns-clause-exact
returns-clause-exact c = all_added c.args.totals.now c.args.numbers.now _ c.loop-i.i c.loop-i.invariant.added c.requires.even (omega arith)

pub returns-clause-small : goal.returns-clause-small
returns-clause-small c =
    All-from_get_or (λ z. unsigned_abs z ≤ (c.args.parts + 1) * 2 ^ 62) c.loop-i.totals (pos 0) (λ k h. c.loop-i.invariant.small k (omega arith))
