use Rattle.std.proofs.Common.{◌≡◌, ℕ, ◌<◌, length}
use Rattle.std.specs.Int.{bit_at}
use Rattle.tv_simplex.specs.Rows.{entry_in, IsSparse}
use Rattle.tv_simplex.specs.Marks.{class_of}
use Rattle.tv_simplex.proofs.marks.marks_of.Given as goal

abbrev pub invariant-entries : goal.invariant-entries
invariant-entries l = ((first : ℕ) × ((width : ℕ) × IsSparse first width l.left)) × ((j : ℕ) → j < l.columns → bit_at l.marks (class_of j) ≡ 0 → entry_in l.row j ≡ entry_in l.left j)

abbrev pub decreases-entries : goal.decreases-entries
decreases-entries l = length l.left
