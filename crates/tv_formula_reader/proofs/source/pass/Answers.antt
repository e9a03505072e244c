use Rattle.tv_formula_reader.proofs.SourceLemmas.{pass_left, pass_stays}
use Rattle.tv_formula_reader.proofs.source.pass.Goals as goal

pub returns-clause-rest : goal.returns-clause-rest
returns-clause-rest c = pass_left c.args.source.now c.args.reading.now c.take.new.self c.take.ensures c.requires.over c.requires.more

pub returns-clause-stays : goal.returns-clause-stays
returns-clause-stays c = pass_stays c.args.source.now c.args.reading.now c.take.new.self c.take.ensures c.requires.over c.requires.more
