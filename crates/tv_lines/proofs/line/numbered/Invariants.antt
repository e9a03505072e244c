use Rattle.std.proofs.Common.{◌≡◌, length}
use Rattle.tv_lines.specs.Pieces.{behind_piece}
use Rattle.tv_lines.specs.Lines.{numbered}
use Rattle.tv_lines.proofs.NumberedLemmas.{numbered_from}
use Rattle.tv_lines.proofs.line.numbered.Given as goal

abbrev pub invariant-words : goal.invariant-words
invariant-words l = numbered_from l.head l.numbers.items l.wide (behind_piece 32 l.rest) ≡ numbered l.head (behind_piece 32 l.fn.behind)

abbrev pub decreases-words : goal.decreases-words
decreases-words l = length l.rest
