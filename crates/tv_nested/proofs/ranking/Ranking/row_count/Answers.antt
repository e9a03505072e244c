use Rattle.std.proofs.Common.{◌<◌, length, sym, arith}
use Rattle.tv_nested.specs.Ranks.{signs_at}
use Rattle.tv_nested.proofs.RankingLemmas.{sign_rows_length, last_rows_length}
use Rattle.tv_nested.proofs.ranking.Ranking.row_count.Goals as goal

pub returns-then-piece-sign_count-clause-is : goal.returns-then-piece-sign_count-clause-is
returns-then-piece-sign_count-clause-is c =
    let t = c.if-piece-sign_count.true in
    let a = c.sign_count.ensures.is in
    sym (last_rows_length (signs_at c.args.self.now c.args.location) c.args.piece (omega (arith, t, a)))

pub returns-clause-is : goal.returns-clause-is
returns-clause-is c =
    let t = c.if-piece-sign_count.false in
    let a = c.sign_count.ensures.is in
    let l = c.requires.piece in
    let inside : c.args.piece < length (signs_at c.args.self.now c.args.location) = omega (arith, t, a, l) in
    sym (sign_rows_length (signs_at c.args.self.now c.args.location) c.args.piece inside)
