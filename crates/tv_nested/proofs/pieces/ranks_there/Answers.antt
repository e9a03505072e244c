use Rattle.std.proofs.Common.{length, ap, arith}
use Rattle.tv_nested.proofs.PieceLemmas.{all_ranks_are}
use Rattle.tv_nested.proofs.RankingLemmas.{tuple_length}
use Rattle.tv_nested.proofs.pieces.ranks_there.Goals as goal

pub ranks_of-requires-clause-enough : goal.ranks_of-requires-clause-enough
ranks_of-requires-clause-enough c =
    let e = c.args.ranking.now.enough c.component_of-component.result in
    let a = ap length c.part-part.ensures.rounds in
    let b = ap length c.part-part.ensures.tuple in
    let d = tuple_length c.part-part.result.now in
    omega (arith, e, a, b, d)

pub returns : goal.returns
returns c = all_ranks_are c.args.ranking.now c.args.location c.variables-variables.result c.component_of-component.result c.part-part.result.now c.in_ok-ranks.ranks.items c.variables-variables.ensures.same c.component_of-component.ensures.is c.part-part.ensures.rounds c.part-part.ensures.tuple c.in_ok-ranks.ensures
