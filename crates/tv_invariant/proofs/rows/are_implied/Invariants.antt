use Rattle.std.proofs.Common.{All, List, ℤ, take}
use Rattle.tv_linear.specs.Linear.{IsMet}
use Rattle.tv_invariant.proofs.rows.are_implied.Given as goal

abbrev pub invariant-others : goal.invariant-others
invariant-others l = (xs : List ℤ) → All (IsMet xs) l.rows → All (IsMet xs) (take l.other-index l.others)
