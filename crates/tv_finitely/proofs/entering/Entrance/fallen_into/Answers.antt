use Rattle.std.proofs.Common.{◌∙◌}
use Rattle.tv_finitely.proofs.EntranceLemmas.{as_targets}
use Rattle.tv_finitely.proofs.entering.Entrance.fallen_into.Goals as goal

pub returns-in-None : goal.returns-in-None
returns-in-None c = λ change. as_targets c.args.self.now change c.args.target c.args.fall c.requires ∙ c.in-None.ensures change

pub returns-in-Some : goal.returns-in-Some
returns-in-Some c = λ change. as_targets c.args.self.now change c.args.target c.args.fall c.requires ∙ c.in-Some.ensures change
