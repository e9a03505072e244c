use Rattle.std.proofs.Common.{◌≡◌, length}
use Rattle.tv_cases.specs.Systems.{cases_of}
use Rattle.tv_lexrank.specs.Attempt.{PartsFrom}
use Rattle.tv_lexrank.proofs.attempt.rank_components.Given as goal

abbrev pub invariant-components : goal.invariant-components
invariant-components l = record {
  as_many : length l.parts.items ≡ l.number;
  parts : PartsFrom (cases_of l.about) l.known.pieces.items l.numbers 0 l.parts.items;
}
