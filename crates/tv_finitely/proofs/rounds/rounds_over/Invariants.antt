use Rattle.std.proofs.Common.{◌≡◌, ◌+◌, length}
use Rattle.tv_rank.specs.Sets.{PointsOf}
use Rattle.tv_cases.specs.Systems.{cases_of}
use Rattle.tv_rank.specs.Given.{AreNumbered}
use Rattle.tv_lexrank.specs.Greedy.{Lead}
use Rattle.tv_finitely.proofs.rounds.rounds_over.Given as goal

abbrev pub invariant-rounds : goal.invariant-rounds
invariant-rounds l = record {
  lead : Lead (cases_of l.component.about.now) l.component.known.now.pieces.items l.fn.set.items l.rounds.items l.left.items;
  as_many : length l.rounds.items ≡ l.round;
  counted : l.count ≡ length l.fn.set.items;
  fewer : length l.left.items + l.round ≡ l.count;
  numbered : AreNumbered (length (cases_of l.component.about.now).cases) l.left.items;
  points : PointsOf (cases_of l.component.about.now) l.component.known.now.pieces.items l.left.items;
}
