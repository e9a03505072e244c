use Rattle.tv_invariant.specs.Seen.{IsSeen}
use Rattle.tv_invariant.proofs.step.ask_strongest.Given as goal

abbrev pub invariant-rows : goal.invariant-rows
invariant-rows l = IsSeen l.fn.judge.ambient.now.columns l.fn.judge.ambient.now.rows.items l.seen
