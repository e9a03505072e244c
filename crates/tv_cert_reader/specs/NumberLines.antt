-- Lines of numbers whose count is given.
use Rattle.std.specs.Prelude.{ℕ, Bool}
use Rattle.tv_lines.specs.declared.head.Head.{Head}
use Rattle.tv_lines.specs.declared.head.Head.TheVariants as heads
use Rattle.tv_cert_reader.specs.LineGrammar.{Grammar, line, sized, is_header, is_row, is_rank, is_draw, is_by, is_end}
use Rattle.tv_cert_reader.specs.declared.number_line.NumberLine.{NumberLine}
use Rattle.tv_cert_reader.specs.declared.number_line.NumberLine.TheVariants as kinds

abbrev pub head_of : NumberLine → Head
head_of kinds.Header = heads.Header
head_of kinds.Row = heads.Row
head_of kinds.Rank = heads.Rank
head_of kinds.Draw = heads.Draw
head_of kinds.By = heads.By
head_of kinds.End = heads.End

abbrev pub tells : NumberLine → Head → Bool
tells kinds.Header = is_header
tells kinds.Row = is_row
tells kinds.Rank = is_rank
tells kinds.Draw = is_draw
tells kinds.By = is_by
tells kinds.End = is_end

-- such a line with `count` numbers
abbrev pub line_with : NumberLine → ℕ → Grammar (Unit {0})
line_with kind count = line (sized (tells kind) count)
