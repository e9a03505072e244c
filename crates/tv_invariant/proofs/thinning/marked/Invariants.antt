use Rattle.std.proofs.Common.{◌≡◌, take}
use Rattle.tv_invariant.specs.Thinning.{picked}
use Rattle.tv_invariant.proofs.thinning.marked.Given as goal

abbrev pub invariant-rows : goal.invariant-rows
invariant-rows l = l.kept.items ≡ picked l.marks (take l.place l.rows)
