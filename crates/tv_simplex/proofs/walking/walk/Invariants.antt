use Rattle.tv_simplex.specs.Views.{equations}
use Rattle.tv_simplex.specs.Walking.{StandsAt}
use Rattle.tv_simplex.proofs.walking.walk.Given as goal

abbrev pub invariant-bases : goal.invariant-bases
invariant-bases l = StandsAt (equations l.system) l._used l.table
