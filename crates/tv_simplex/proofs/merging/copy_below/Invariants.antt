use Rattle.std.proofs.Common.{ℕ, ◌≤◌, List, length}
use Rattle.tv_simplex.specs.Ratios.{Ratio}
use Rattle.tv_simplex.specs.declared.rows.Entry.{Entry}
use Rattle.tv_simplex.specs.Rows.{IsSparse, IsMade, NoneBetween, IsTaken}
use Rattle.tv_simplex.proofs.merging.copy_below.Given as goal

abbrev pub invariant-entries : goal.invariant-entries
invariant-entries l = ((from width : ℕ) → IsSparse from width l.fn.entries → (k : ℕ) × IsSparse k width l.left) × ((old pivots : List Entry) (factor : Ratio) (width from : ℕ) → from ≤ l.column → l.column ≤ width → NoneBetween pivots from l.column →
    IsMade (IsTaken old factor pivots) old width from l.fn.entries l.fn.made.items →
    (k : ℕ) × (from ≤ k) × (k ≤ l.column) × IsMade (IsTaken old factor pivots) old width k l.left l.made.items)

abbrev pub decreases-entries : goal.decreases-entries
decreases-entries l = length l.left
