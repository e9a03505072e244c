use Rattle.std.proofs.Common.{◌≡◌, length}
use Rattle.tv_finitely.specs.Parts.{PartsFrom}
use Rattle.tv_finitely.specs.Splits.{split_of}
use Rattle.tv_finitely.proofs.attempt.visit_components.Given as goal

abbrev pub invariant-components : goal.invariant-components
invariant-components l = record {
  as_many : length l.parts.items ≡ l.number;
  parts : PartsFrom (split_of l.about) l.known.pieces.items l.numbers 0 l.parts.items;
}
