use Rattle.std.proofs.Common.{sym}
use Rattle.tv_formula_reader.proofs.SourceLemmas.{more_behind}
use Rattle.tv_formula_reader.proofs.plain.pass_word.Goals as goal

pub pass-requires-clause-more : goal.pass-requires-clause-more
pass-requires-clause-more c = more_behind c.args.source.now c.args.reading.now c.args.token c.requires.over (sym c.requires.next) c.requires.inner
