use Rattle.std.proofs.Common.{◌++◌, length-append, arith}
use Rattle.tv_rank.specs.declared.unknown.Identity.TheVariants.{Bound}
use Rattle.tv_rank.specs.Questions.{ways_of, many_of, terms_until}
use Rattle.tv_rank.specs.RankingSystem.{steps_below, identity_unknowns}
use Rattle.tv_rank.proofs.Lengths.{length-identity}
use Rattle.tv_rank.proofs.ranking.family_of.Goals as goal

pub read_lines-requires-clause-inside : goal.read_lines-requires-clause-inside
read_lines-requires-clause-inside c =
    let q = c.args.asked.now in
    let w = ways_of q in
    let a = length-append (terms_until q q.locations ++ steps_below w (many_of q)) (identity_unknowns Bound (w q.falling)) in
    let b = length-append (terms_until q q.locations) (steps_below w (many_of q)) in
    let d = length-identity Bound (w q.falling) in
    let p = c.in_ok-terms.ensures.place in
    let e = c.requires.as_many in
    omega (arith, a, b, d, p, e)
