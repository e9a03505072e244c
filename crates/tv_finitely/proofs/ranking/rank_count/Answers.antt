use Rattle.std.proofs.Common.{inl, inr, length, ap, arith}
use Rattle.tv_linear.proofs.ListLaws.{last_or_below}
use Rattle.tv_finitely.specs.Parts.{rounds_in}
use Rattle.tv_finitely.proofs.PartLemmas.{rounds_are}
use Rattle.tv_finitely.proofs.ranking.rank_count.Goals as goal

pub overflow_cast-len : goal.overflow_cast-len
overflow_cast-len c =
    let i = c.parts.part-index in
    let e = ap length (rounds_are i c.args.parts.now c.part-item.result c.parts-test.true c.part-item.is) in
    let f = c.requires i in
    let l = c.len.ensures in
    let o = c.part-item.result.rounds.ok in
    omega (arith, e, f, l, o)

pub overflow_add-len : goal.overflow_add-len
overflow_add-len c =
    let i = c.parts.part-index in
    let e = ap length (rounds_are i c.args.parts.now c.part-item.result c.parts-test.true c.part-item.is) in
    let f = c.requires i in
    let l = c.len.ensures in
    let o = c.part-item.result.rounds.ok in
    omega (arith, e, f, l, o)

pub parts-preserved : goal.parts-preserved
parts-preserved c =
    let i = c.parts.part-index in
    let e = ap length (rounds_are i c.args.parts.now c.part-item.result c.parts-test.true c.part-item.is) in
    let f = c.requires i in
    let l = c.len.ensures in
    let o = c.part-item.result.rounds.ok in
    let a = c.greater-count.ensures.first in
    let b = c.greater-count.ensures.second in
    let some = c.parts.invariant.some in
    let bounded = c.parts.invariant.bounded in
    record {
      some = omega (arith, a, some);
      bounded = c.greater-count.ensures.least 8193 bounded (omega (arith, e, f, l, o));
      enough = λ number h. elim (last_or_below i number h) [
        | inl q ↦ (let g = ap (λ z. length (rounds_in c.args.parts.now z)) q in omega (arith, e, l, o, b, g))
        | inr q ↦ (let g = c.parts.invariant.enough number q in omega (arith, a, g))
      ];
    }
