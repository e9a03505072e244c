use Rattle.std.proofs.Common.{◌≡◌, ◌++◌}
use Rattle.tv_rank.specs.Questions.{ways_of}
use Rattle.tv_nested.specs.NestedSystem.{way_lines}
use Rattle.tv_nested.proofs.listing.push_identity_lines.Given as goal

abbrev pub invariant-identities : goal.invariant-identities
invariant-identities l = l.items.items ≡ l.fn.items.items ++ way_lines l.asked.variables l.place (ways_of l.asked l.place) l.index
