use Rattle.tv_pre.proofs.ending.DescendingPieceProver.prove.Goals as goal

pub returns-in-Ok-clause-adds : goal.returns-in-Ok-clause-adds
returns-in-Ok-clause-adds c a p fits = c.in-Ok.ensures.adds a.number p a.pieces fits
