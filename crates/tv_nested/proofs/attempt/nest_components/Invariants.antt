use Rattle.std.proofs.Common.{◌≡◌, length}
use Rattle.tv_cases.specs.Systems.{cases_of}
use Rattle.tv_nested.specs.Parts.{PartsFrom}
use Rattle.tv_nested.proofs.attempt.nest_components.Given as goal

abbrev pub invariant-components : goal.invariant-components
invariant-components l = record {
  as_many : length l.parts.items ≡ l.number;
  parts : PartsFrom (cases_of l.about) l.known.pieces.items l.numbers 0 l.parts.items;
}
