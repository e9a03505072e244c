use Rattle.tv_cases.specs.Systems.{cases_of}
use Rattle.tv_lexrank.proofs.AttemptLemmas.{part_is}
use Rattle.tv_lexrank.proofs.ranking.Ranking.part.Goals as goal

pub returns-clause-part : goal.returns-clause-part
returns-clause-part c =
    let r = c.args.self.now in
    part_is (cases_of r.about.now) r.known.now.pieces.items r.numbers.now c.args.number r.parts.now c.part_at.result.now c.requires.ranked c.requires.number c.part_at.ensures
