use Rattle.tv_lines.proofs.PieceLemmas.{pieces_cut}
use Rattle.tv_lines.proofs.words.cut.Goals as goal

pub returns-clause-cut : goal.returns-clause-cut
returns-clause-cut c = rw (c.split_at.ensures.front, c.split_at.ensures.back, c.piece_length-length.ensures.exact) (pieces_cut c.args.separator c.args.text.now)
