use Rattle.tv_cases.specs.Systems.{cases_of}
use Rattle.tv_places.specs.Places.{places_of}
use Rattle.tv_lexrank.specs.Inside.{inside_keys, behind}
use Rattle.tv_lexrank.specs.Sorting.{IsSortedIn}
use Rattle.tv_lexrank.proofs.sorting.sort_cases.Given as goal

abbrev pub invariant-places : goal.invariant-places
invariant-places l = IsSortedIn l.component (behind (places_of l.component.number (inside_keys (cases_of l.component.about.now) l.component.numbers.now l.component.count)) l.place) l.sorted
