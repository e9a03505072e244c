use Rattle.std.proofs.Common.{refl}
use Rattle.tv_derived.proofs.Counted.{nothing}
use Rattle.tv_derived.proofs.laws.cases_are_counted.Goals as goal

pub returns : goal.returns
returns c about base f blank r column d = nothing about base blank refl d column
