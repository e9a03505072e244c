use Rattle.tv_refute.proofs.Stepping.{AreChanged}
use Rattle.tv_refute.proofs.steps.change_each.Given as goal

abbrev pub invariant-loop-k : goal.invariant-loop-k
invariant-loop-k g l = AreChanged (g.S.Step.told l.step) (g.S.Step.value l.step) l.initial.numbers l.numbers l.k
