use Rattle.std.proofs.Common.{◌≡◌, ℕ, ◌+◌, length}
use Rattle.tv_nested.specs.Splitting.{IsSplitFrom}
use Rattle.tv_nested.proofs.splitting.split_tree.Given as goal

abbrev pub invariant-rows : goal.invariant-rows
invariant-rows l = (p : ℕ) → p + l.turn ≡ length l.rows → IsSplitFrom l.rows p l.before l.fall l.tree
