use Rattle.std.proofs.Common.{◌≡◌, length, arith}
use Rattle.tv_reader.proofs.WordLemmas.{full_stays}
use Rattle.tv_reader.proofs.words.put_within.Goals as goal

pub returns-else-len-most-clause-added : goal.returns-else-len-most-clause-added
returns-else-len-most-clause-added c = λ ws. let same : length c.args.names.now ≡ c.args.most = omega (arith, c.requires.within, c.if-len-most.false, c.len.ensures.counted) in full_stays c.args.names.now ws c.args.word.now c.args.most same
