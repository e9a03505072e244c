use Rattle.tv_simplex.specs.Marks.{AreMarked}
use Rattle.tv_simplex.proofs.marks.first_marks.Given as goal

abbrev pub invariant-rows : goal.invariant-rows
invariant-rows l = AreMarked l.columns l.row l.rows l.marks.items
