use Rattle.tv_simplex.specs.Scales.{IsCommon}
use Rattle.tv_simplex.proofs.scaling.common_scale.Given as goal

abbrev pub invariant-places : goal.invariant-places
invariant-places l = IsCommon l.fractions l.j l.scale
