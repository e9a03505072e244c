use Rattle.std.proofs.Common.{◌≡◌, map, take}
use Rattle.tv_cases.specs.Systems.{cases_of}
use Rattle.tv_lexrank.specs.Inside.{inside_key}
use Rattle.tv_lexrank.proofs.inside.stands_inside.Given as goal

abbrev pub invariant-cases : goal.invariant-cases
invariant-cases l = l.keys.items ≡ map (inside_key l.numbers l.count) (take l.number (cases_of l.about).cases)
