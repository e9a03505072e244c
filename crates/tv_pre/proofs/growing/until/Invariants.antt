use Rattle.std.proofs.Common.{length}
use Rattle.tv_cases.specs.Systems.{cases_of}
use Rattle.tv_pre.specs.Growing.{IsGrown}
use Rattle.tv_pre.proofs.GrowingLemmas.{AreLeft}
use Rattle.tv_pre.proofs.growing.until.Given as goal

abbrev pub invariant-rounds : goal.invariant-rounds
invariant-rounds l = record {
  grown : IsGrown (cases_of l.setting.about.now) l.sides l.grown;
  left : AreLeft (cases_of l.setting.about.now) l.sides l.fn.done.pieces.items l.fn.layers.items l.grown.region.pieces.items l.layers.items;
}

abbrev pub decreases-rounds : goal.decreases-rounds
decreases-rounds l = length l.layers.items
