use Rattle.tv_invariant.specs.Sieves.{Sieved}
use Rattle.tv_invariant.specs.Seen.{IsSeen}
use Rattle.tv_invariant.specs.Judged.{Stays, Falls}
use Rattle.tv_invariant.proofs.step.sieve.Given as goal

abbrev pub invariant-candidates : goal.invariant-candidates
invariant-candidates l = record {
  sieved : Sieved (Stays l.fn.judge) (Falls l.fn.judge) l.yielded l.kept.items;
  seen : IsSeen l.fn.judge.ambient.now.columns l.fn.judge.ambient.now.rows.items l.seen;
}
