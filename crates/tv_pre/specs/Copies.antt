-- What was found of a formula, up to where its lists lie in memory.
use Rattle.std.specs.Prelude.{◌≡◌}
use Rattle.tv_copy.specs.SameNodes.{SameNode}
use Rattle.tv_copy.specs.SameRegions.{SameRegion}
use Rattle.tv_pre.specs.declared.outcome.Found.{Found}

-- the same region and node were found, the same gap, and as many subformulas
pub record SameFound (first second : Found) : Type 0 where
  pub region : SameRegion first.part.region second.part.region
  pub node : SameNode first.part.node second.part.node
  pub gap : second.gap ≡ first.gap
  pub size : second.size ≡ first.size
