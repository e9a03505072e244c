use Rattle.std.proofs.Common.{◌<◌, arith, sym, subst}
use Rattle.tv_simplex.specs.Outcomes.{IsNarrowSystem}
use Rattle.tv_simplex.specs.Systems.{IsWhole}
use Rattle.tv_rank.specs.declared.question.Question.{Question}
use Rattle.tv_rank.specs.Questions.{ways_of, many_of}
use Rattle.tv_nested.proofs.Wholes.{nested_whole}
use Rattle.tv_nested.proofs.solving.answer.Goals as goal

some : (q : Question) → 0 < many_of q
some q = (let h = q.falls in omega (arith, h))

pub solve-requires : goal.solve-requires
solve-requires c =
    let q = c.args.asked.now in
    let a = c.in-Ok.ensures.system in
    subst IsWhole (sym a.same) (nested_whole (ways_of q) (many_of q) c.args.depth q.variables q.locations (some q) a.small)

pub nesting_of-requires-clause-narrow : goal.nesting_of-requires-clause-narrow
nesting_of-requires-clause-narrow c = subst IsNarrowSystem c.in-Ok.ensures.system.same c.in-Ok-solve.ensures.narrow

pub returns-in-Ok-nesting_of-clause-first_wide : goal.returns-in-Ok-nesting_of-clause-first_wide
returns-in-Ok-nesting_of-clause-first_wide c = λ row column h _. c.in-Ok-solve.ensures.first_wide row column (rw c.in-Ok.ensures.system.same h)
