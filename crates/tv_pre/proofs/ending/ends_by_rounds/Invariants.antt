use Rattle.std.proofs.Common.{length}
use Rattle.tv_cases.specs.Systems.{cases_of}
use Rattle.tv_pre.specs.Ending.{IsEnding}
use Rattle.tv_pre.proofs.EndingLemmas.{AreEndLeft}
use Rattle.tv_pre.proofs.ending.ends_by_rounds.Given as goal

abbrev pub invariant-rounds : goal.invariant-rounds
invariant-rounds l = record {
  grown : IsEnding (cases_of l.setting.about.now) l.grown;
  left : AreEndLeft (cases_of l.setting.about.now) l.fn.layers.items l.grown.region.pieces.items l.layers.items;
}

abbrev pub decreases-rounds : goal.decreases-rounds
decreases-rounds l = length l.layers.items
