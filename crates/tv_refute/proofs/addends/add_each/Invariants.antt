use Rattle.std.proofs.Common.{◌+ℤ◌, ◌*ℤ◌}
use Rattle.tv_refute.specs.Blocks.{IsAddedHeld}
use Rattle.tv_refute.proofs.Stepping.{AreChanged}
use Rattle.tv_refute.proofs.addends.add_each.Given as goal

abbrev pub invariant-loop-k : goal.invariant-loop-k
invariant-loop-k g l =
    AreChanged (λ k z. g.A.Addend.told l.addend k × IsAddedHeld z l.factor (g.A.Addend.number l.addend k)) (λ k z. z +ℤ l.factor *ℤ g.A.Addend.number l.addend k) l.initial.totals l.totals l.k
