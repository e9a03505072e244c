use Rattle.std.proofs.Common.{◌≡◌}
use Rattle.tv_rank.specs.Questions.{ways_of}
use Rattle.tv_nested.specs.NestedSystem.{lines}
use Rattle.tv_nested.proofs.listing.line_list.Given as goal

abbrev pub invariant-places : goal.invariant-places
invariant-places l = l.items.items ≡ lines (ways_of l.asked) l.depth l.asked.variables l.place
