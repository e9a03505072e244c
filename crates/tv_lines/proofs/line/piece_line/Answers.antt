use Rattle.tv_lines.proofs.LongLines.{long_piece}
use Rattle.tv_lines.proofs.line.piece_line.Goals as goal

pub returns-in-Some-next_word-2 : goal.returns-in-Some-next_word-2
returns-in-Some-next_word-2 c =
    rw (c.in-Some.ensures.next, c.in-Some-next_word.ensures.next, c.in-Some-next_word-2.ensures.next)
    (long_piece c.in-Some.location.now c.in-Some-next_word.word.now c.in-Some-next_word-2.field-0-0.now c.in-Some-next_word-2.field-0-1.now c.in-Some-next_word-2.len_at_least)
