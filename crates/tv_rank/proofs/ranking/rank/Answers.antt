use Rattle.std.proofs.Common.{sym, subst}
use Rattle.tv_simplex.specs.Systems.{IsWhole}
use Rattle.tv_simplex.specs.Outcomes.{IsNarrowSystem, IsFirstWide}
use Rattle.tv_rank.specs.Questions.{ways_of, many_of}
use Rattle.tv_rank.proofs.Wholes.{ranking_whole}
use Rattle.tv_rank.proofs.ranking.rank.Goals as goal

pub solve-requires : goal.solve-requires
solve-requires c =
    let q = c.args.asked.now in
    let a = c.in-Ok.ensures.system in
    subst IsWhole (sym a.same) (ranking_whole (ways_of q) (many_of q) q.falling q.variables q.locations a.small)

pub found_of-requires-clause-narrow : goal.found_of-requires-clause-narrow
found_of-requires-clause-narrow c = subst IsNarrowSystem c.in-Ok.ensures.system.same c.in-Ok-solve.ensures.narrow

pub returns-in-Ok-found_of-clause-first_wide : goal.returns-in-Ok-found_of-clause-first_wide
returns-in-Ok-found_of-clause-first_wide c = λ row column h _. c.in-Ok-solve.ensures.first_wide row column (subst (λ s. IsFirstWide s row column) (sym c.in-Ok.ensures.system.same) h)
