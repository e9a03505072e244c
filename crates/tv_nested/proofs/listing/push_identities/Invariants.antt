use Rattle.std.proofs.Common.{◌≡◌, ◌++◌}
use Rattle.tv_rank.specs.Questions.{ways_of}
use Rattle.tv_nested.specs.NestedSystem.{way_unknowns}
use Rattle.tv_nested.proofs.listing.push_identities.Given as goal

abbrev pub invariant-identities : goal.invariant-identities
invariant-identities l = l.items.items ≡ l.fn.items.items ++ way_unknowns l.place (ways_of l.asked l.place) l.index
