use Rattle.std.proofs.Common.{sym}
use Rattle.tv_nested.proofs.ComponentLemmas.{rounds_are, tuple_is}
use Rattle.tv_nested.proofs.ranking.Ranking.part.Goals as goal

pub returns-clause-rounds : goal.returns-clause-rounds
returns-clause-rounds c = sym (rounds_are c.args.number c.args.self.now.parts.now c.part_at.result.now c.requires c.part_at.ensures)

pub returns-clause-tuple : goal.returns-clause-tuple
returns-clause-tuple c = sym (tuple_is c.args.number c.args.self.now.parts.now c.part_at.result.now c.requires c.part_at.ensures)
