use Rattle.std.proofs.Common.{arith}
use Rattle.tv_finitely.proofs.EntranceLemmas.{kept_counted}
use Rattle.tv_finitely.proofs.kept.Kept.count.Goals as goal

pub returns : goal.returns
returns c = λ change. (let k = kept_counted change c.args.self.now in let a = c.len.ensures.counted in let b = c.len-2.ensures.counted in omega (arith, k, a, b))
