use Rattle.std.proofs.Common.{◌+◌, ◌*◌, length, subst}
use Rattle.tv_simplex.specs.Outcomes.{IsSolutionOf, IsBarrierOf, GivesBarrier, IsNarrowSystem}
use Rattle.tv_simplex.specs.Views.{equations, IsAnswer, GivesAnswer}
use Rattle.tv_simplex.proofs.RowLemmas.{tested_false}
use Rattle.tv_farkas.specs.Refuting.{IsOppositePoint}
use Rattle.tv_farkas.proofs.SystemLemmas.{solution_refutes}
use Rattle.tv_farkas.proofs.RefusalLemmas.{point_answers, point_gives, point_short}
use Rattle.tv_farkas.proofs.refuting.refute.Goals as goal
use Rattle.tv_simplex.proofs.ScaleLemmas.{not_below}

pub returns-in-Ok-Solution-clause-answers : goal.returns-in-Ok-Solution-clause-answers
returns-in-Ok-Solution-clause-answers c =
    let e = c.in-Ok.ensures.same in
    let size = not_below 4000000 ((c.args.columns + 1) * length c.args.rows.now) (tested_false c.is_large.result c.is_large.ensures c.if-is_large.false) in
    let answer = subst (λ a. IsAnswer (equations c.in-Ok.system) a) c.in-Ok-Solution.field-0-is c.in-Ok-Solution.ensures.answers in
    solution_refutes c.args.columns c.args.rows.now c.in-Ok-Solution.values.items c.in-Ok-Solution.field-0-1 c.requires.even size (subst (λ s. IsNarrowSystem s) e c.in-Ok-Solution.ensures.narrow)
    (subst (λ s. IsSolutionOf s c.in-Ok-Solution.values.items c.in-Ok-Solution.field-0-1) e answer)

pub returns-in-Ok-point_of-clause-answers : goal.returns-in-Ok-point_of-clause-answers
returns-in-Ok-point_of-clause-answers c =
    let answer = subst (λ a. IsAnswer (equations c.in-Ok.system) a) c.in-Ok-Barrier.field-0-is c.in-Ok-Barrier.ensures.answers in
    point_answers c.args.columns c.args.rows.now c.in-Ok-Barrier.y.items c.in-Ok-point_of.point c.requires.even (subst (λ s. IsBarrierOf s c.in-Ok-Barrier.y.items) c.in-Ok.ensures.same answer)
    (subst (λ y. IsOppositePoint y c.in-Ok-point_of.point) c.deref.ensures.value c.in-Ok-point_of.ensures)

pub returns-in-Ok-point_of-clause-short : goal.returns-in-Ok-point_of-clause-short
returns-in-Ok-point_of-clause-short c =
    let answer = subst (λ a. IsAnswer (equations c.in-Ok.system) a) c.in-Ok-Barrier.field-0-is c.in-Ok-Barrier.ensures.answers in
    point_short c.args.columns c.args.rows.now c.in-Ok-Barrier.y.items c.in-Ok-point_of.point (subst (λ s. IsBarrierOf s c.in-Ok-Barrier.y.items) c.in-Ok.ensures.same answer)
    (subst (λ y. IsOppositePoint y c.in-Ok-point_of.point) c.deref.ensures.value c.in-Ok-point_of.ensures)

pub returns-in-Ok-point_of-clause-last : goal.returns-in-Ok-point_of-clause-last
returns-in-Ok-point_of-clause-last c =
    let gives = subst (λ a. GivesAnswer (equations c.in-Ok.system) a) c.in-Ok-Barrier.field-0-is c.in-Ok-Barrier.ensures.last in
    point_gives c.args.columns c.args.rows.now c.in-Ok-Barrier.y.items c.in-Ok-point_of.point (subst (λ s. GivesBarrier s c.in-Ok-Barrier.y.items) c.in-Ok.ensures.same gives)
    (subst (λ y. IsOppositePoint y c.in-Ok-point_of.point) c.deref.ensures.value c.in-Ok-point_of.ensures)
