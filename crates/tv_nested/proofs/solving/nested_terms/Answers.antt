use Rattle.tv_nested.proofs.solving.nested_terms.Goals as goal

pub answer-requires-clause-points : goal.answer-requires-clause-points
answer-requires-clause-points c = λ k l.
    rw c.variables.ensures.same
    (rw c.list.ensures.same
    (rw c.deref.ensures.value (c.requires.points k l)))
