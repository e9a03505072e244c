use Rattle.std.proofs.Common.{◌≡◌, take}
use Rattle.tv_cover.specs.Targets.{lists_of}
use Rattle.tv_region.specs.Regions.{lists_at}
use Rattle.tv_pre.specs.Parts.{joined_pieces}
use Rattle.tv_pre.proofs.targets.targets_in.Given as goal

abbrev pub invariant-regions : goal.invariant-regions
invariant-regions l = lists_of l.targets.items ≡ lists_at l.location (joined_pieces (take l.region-index l.regions))
