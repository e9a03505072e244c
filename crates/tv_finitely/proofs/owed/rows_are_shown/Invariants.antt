use Rattle.tv_refute.specs.Frames.{known_at}
use Rattle.tv_finitely.specs.Entrances.{rows_listed}
use Rattle.tv_check.proofs.ShownLemmas.{Left}
use Rattle.tv_finitely.proofs.owed.rows_are_shown.Given as goal

abbrev pub invariant-loop-i : goal.invariant-loop-i
invariant-loop-i l = Left l.columns (known_at l.frames) (rows_listed l.owed) l.lists l.i
