use Rattle.tv_formula_reader.proofs.SourceLemmas.{pass_more}
use Rattle.tv_formula_reader.proofs.source.pass_kind.Goals as goal

pub pass-requires-clause-more : goal.pass-requires-clause-more
pass-requires-clause-more c = pass_more c.args.source.now c.args.reading.now c.requires.over c.requires.inner
