use Rattle.tv_region.proofs.AddLemmas.{IsFree}
use Rattle.tv_region.proofs.adding.is_covered.Given as goal

abbrev pub invariant-lists : goal.invariant-lists
invariant-lists l = IsFree l.kept l.list-index l.rows
