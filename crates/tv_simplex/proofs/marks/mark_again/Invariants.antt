use Rattle.std.proofs.Common.{length}
use Rattle.tv_simplex.specs.Marks.{AreMarkedBut}
use Rattle.tv_simplex.proofs.marks.mark_again.Given as goal

abbrev pub invariant-entries : goal.invariant-entries
invariant-entries l = AreMarkedBut l.left l.columns (length l.fn.marks) l.rows l.marks

abbrev pub decreases-entries : goal.decreases-entries
decreases-entries l = length l.left
