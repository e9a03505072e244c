use Rattle.std.specs.Prelude.{◌≡◌, ◌+◌, ◌<◌, List, length, All}
use Rattle.tv_lexrank.specs.declared.round.Round.{Round}

-- the place of a round is one of its set, and there are multipliers for each case and once more
pub record IsLined (r : Round) : Type 0 where
  pub within : r.place < length r.set.items
  pub counted : length r.multipliers.items ≡ length r.set.items + 1

abbrev pub AreLined : List Round → Type 0
AreLined rounds = All IsLined rounds
