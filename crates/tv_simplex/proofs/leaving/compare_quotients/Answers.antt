use Rattle.tv_simplex.proofs.RowLemmas.{tested_true}
use Rattle.tv_simplex.proofs.LeavingLemmas.{compares_at, quotient_of, both_zero}
use Rattle.std.proofs.Common.{pos, ◌<ℤ◌, subst}
use Rattle.tv_simplex.proofs.leaving.compare_quotients.Goals as goal

pub returns-then-is_zero-2 : goal.returns-then-is_zero-2
returns-then-is_zero-2 c = λ last column o first second c_in o_in fe ge fp gp.
    both_zero last column o first second c.args.left.now c.args.right.now o_in fe ge (tested_true c.is_zero.result c.is_zero.ensures c.if-is_zero.true)
    (tested_true c.is_zero-then-is_zero.result c.is_zero-then-is_zero.ensures c.if-is_zero-2.true)

pub returns : goal.returns
returns c = λ last column o first second c_in o_in fe ge fp gp.
    compares_at last column o first second c.quotient.result c.quotient-2.result c.cmp.result c_in o_in
    (subst (λ z. pos 0 <ℤ z.numerator) fp c.requires.above.0) (subst (λ z. pos 0 <ℤ z.numerator) gp c.requires.above.1)
    (quotient_of fe fp c.quotient.ensures) (quotient_of ge gp c.quotient-2.ensures) c.cmp.ensures
