use Rattle.std.proofs.Common.{inl, inr, length, ap, arith}
use Rattle.tv_linear.proofs.ListLaws.{last_or_below}
use Rattle.tv_nested.specs.Amounts.{amount_in}
use Rattle.tv_nested.proofs.ComponentLemmas.{rounds_are, tuple_is}
use Rattle.tv_nested.proofs.RankingLemmas.{tuple_length}
use Rattle.tv_nested.proofs.ranking.rank_count.Goals as goal

pub amount_of-requires : goal.amount_of-requires
amount_of-requires c =
    let i = c.parts.part-index in
    let e = ap length (rounds_are c.parts.part-index c.args.parts.now c.part-item.result c.parts-test.true c.part-item.is) in
    let g = ap length (tuple_is c.parts.part-index c.args.parts.now c.part-item.result c.parts-test.true c.part-item.is) in
    let f = c.requires c.parts.part-index in
    let t = tuple_length c.part-item.result in
    omega (arith, e, f, g, t)

pub overflow_add-amount_of : goal.overflow_add-amount_of
overflow_add-amount_of c =
    let e = ap length (rounds_are c.parts.part-index c.args.parts.now c.part-item.result c.parts-test.true c.part-item.is) in
    let g = ap length (tuple_is c.parts.part-index c.args.parts.now c.part-item.result c.parts-test.true c.part-item.is) in
    let f = c.requires c.parts.part-index in
    let t = tuple_length c.part-item.result in
    let m = c.amount_of.ensures in
    omega (arith, e, f, g, t, m)

pub parts-preserved : goal.parts-preserved
parts-preserved c =
    let i = c.parts.part-index in
    let e = ap length (rounds_are c.parts.part-index c.args.parts.now c.part-item.result c.parts-test.true c.part-item.is) in
    let g = ap length (tuple_is c.parts.part-index c.args.parts.now c.part-item.result c.parts-test.true c.part-item.is) in
    let f = c.requires c.parts.part-index in
    let t = tuple_length c.part-item.result in
    let m = c.amount_of.ensures in
    let a = c.greater-count.ensures.first in
    let b = c.greater-count.ensures.second in
    let some = c.parts.invariant.some in
    let bounded = c.parts.invariant.bounded in
    record {
      some = omega (arith, a, some);
      bounded = c.greater-count.ensures.least 8197 bounded (omega (arith, e, f, g, t, m));
      enough = λ number h. elim (last_or_below i number h) [
        | inl q ↦ (let j = ap (amount_in c.args.parts.now) q in omega (arith, e, g, t, m, b, j))
        | inr q ↦ (let j = c.parts.invariant.enough number q in omega (arith, a, j))
      ];
    }
