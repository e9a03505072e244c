use Rattle.std.proofs.Common.{◌≡◌, ◌++◌, take}
use Rattle.tv_recur.specs.Staying.{unchanged_rows}
use Rattle.tv_recur.proofs.staying.push_all_unchanged.Given as goal

abbrev pub invariant-updates : goal.invariant-updates
invariant-updates l = l.rows.items ≡ l.fn.rows.items ++ unchanged_rows l.columns (take l.update-index l.updates)
