use Rattle.tv_lines.proofs.LongLines.{long_header}
use Rattle.tv_lines.proofs.line.header_line.Goals as goal

pub returns-in-Some : goal.returns-in-Some
returns-in-Some c = rw c.in-Some.ensures.next (long_header c.in-Some.field-0-0.now c.in-Some.field-0-1.now c.in-Some.len_at_least)
