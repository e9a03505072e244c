use Rattle.std.proofs.Common.{◌≡◌, ◌++◌}
use Rattle.tv_rank.specs.Questions.{ways_of, many_of}
use Rattle.tv_nested.specs.NestedSystem.{terms_below, steps_below}
use Rattle.tv_nested.proofs.listing.unknown_list.Given as goal

abbrev pub invariant-places : goal.invariant-places
invariant-places l =
    let ways = ways_of l.asked in
    l.items.items ≡ terms_below ways (many_of l.asked) l.depth l.asked.variables l.asked.locations ++ steps_below ways l.depth l.place
