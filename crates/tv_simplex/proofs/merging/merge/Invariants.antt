use Rattle.std.proofs.Common.{ℕ, length}
use Rattle.tv_simplex.specs.Rows.{ratio, entry_in, IsMade, IsRestOf, IsTaken}
use Rattle.tv_simplex.proofs.merging.merge.Given as goal

abbrev pub invariant-pivots : goal.invariant-pivots
invariant-pivots l = (k : ℕ) × IsMade (IsTaken l.row (ratio l.factor) l.pivots) l.row l.width k l.left l.made.items × IsRestOf (entry_in l.pivots) k l.width l.next

abbrev pub decreases-pivots : goal.decreases-pivots
decreases-pivots l = length l.next
