use Rattle.tv_lines.specs.Pieces.{behind_piece}
use Rattle.tv_lines.proofs.NumberedLemmas.{numbered_from_first}
use Rattle.tv_lines.proofs.line.numbered.Goals as goal

pub words-init : goal.words-init
words-init c = rw c.in_ok-numbers.ensures.items (numbered_from_first c.args.head (behind_piece 32 c.args.behind.now))
