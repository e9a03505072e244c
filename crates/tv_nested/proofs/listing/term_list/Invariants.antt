use Rattle.std.proofs.Common.{◌≡◌}
use Rattle.tv_rank.specs.Questions.{ways_of, many_of}
use Rattle.tv_nested.specs.NestedSystem.{terms_below}
use Rattle.tv_nested.proofs.listing.term_list.Given as goal

abbrev pub invariant-locations : goal.invariant-locations
invariant-locations l = l.items.items ≡ terms_below (ways_of l.asked) (many_of l.asked) l.depth l.asked.variables l.location
