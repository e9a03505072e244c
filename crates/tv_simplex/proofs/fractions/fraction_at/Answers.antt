use Rattle.std.proofs.Common.{ap, ◌∙◌}
use Rattle.tv_simplex.specs.Rows.{ratio}
use Rattle.tv_simplex.proofs.ScaleLemmas.{at_get}
use Rattle.tv_simplex.proofs.fractions.fraction_at.Goals as goal

pub returns : goal.returns
returns c = record { is = ap ratio c.index-fractions-place.is ∙ at_get c.args.fractions.now c.args.place c.index-fractions-place.result c.requires }
