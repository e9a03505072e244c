use Rattle.tv_finitely.specs.Splits.{split_of}
use Rattle.tv_finitely.proofs.PartLemmas.{part_is}
use Rattle.tv_finitely.proofs.ranking.Ranking.part.Goals as goal

pub returns-clause-part : goal.returns-clause-part
returns-clause-part c =
    let r = c.args.self.now in
    part_is (split_of r.about.now) r.known.now.pieces.items r.numbers.now c.args.number r.parts.now c.part_at.result.now c.requires.ranked c.requires.number c.part_at.ensures
