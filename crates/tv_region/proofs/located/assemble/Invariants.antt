use Rattle.tv_region.specs.Regions.{IsAssembledTo}
use Rattle.tv_region.proofs.located.assemble.Given as goal

abbrev pub invariant-locations : goal.invariant-locations
invariant-locations g l = IsAssembledTo l.location l.variables l.locations (g.L.Located.only l.located) (g.L.Located.out l.located) (g.L.Located.made l.located) (g.L.Located.bounded l.located) l.pieces.items
