use Rattle.std.proofs.Common.{◌≡◌}
use Rattle.tv_rank.specs.Questions.{ways_of}
use Rattle.tv_rank.specs.Ways.{touches}
use Rattle.tv_rank.proofs.listing.touches.Given as goal

abbrev pub invariant-places : goal.invariant-places
invariant-places l = l.touched ≡ touches (ways_of l.asked) l.place l.location
