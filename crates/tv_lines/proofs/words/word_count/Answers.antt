use Rattle.std.proofs.Common.{◌-◌, length, take, drop, refl}
use Rattle.tv_lines.proofs.PieceLemmas.{length-pieces, behind_piece-tail}
use Rattle.tv_lines.proofs.words.word_count.Goals as goal

pub returns-in-len1-up : goal.returns-in-len1-up
returns-in-len1-up c =
    rw (behind_piece-tail 32 c.args.behind.now c.in-len1-up.len_at_least, length-pieces 32 (take (length c.args.behind.now - 1) (drop 1 c.args.behind.now)), c.space_count.ensures.exact) refl
