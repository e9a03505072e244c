use Rattle.std.proofs.Common.{ℕ, length}
use Rattle.tv_simplex.specs.Rows.{ratio, IsSparse, IsMade, IsDivided}
use Rattle.tv_simplex.proofs.rows.divide.Given as goal

abbrev pub invariant-entries : goal.invariant-entries
invariant-entries l = (width : ℕ) → IsSparse 0 width l.fn.row → (k : ℕ) × IsMade (IsDivided l.fn.row (ratio l.divisor)) l.fn.row width k l.left l.made.items

abbrev pub decreases-entries : goal.decreases-entries
decreases-entries l = length l.left
