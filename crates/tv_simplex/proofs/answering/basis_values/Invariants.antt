use Rattle.tv_simplex.specs.Walking.{AreValues}
use Rattle.tv_simplex.proofs.answering.basis_values.Given as goal

abbrev pub invariant-rows : goal.invariant-rows
invariant-rows l = AreValues l.i l.columns l.basis l.numbers l.values.items
