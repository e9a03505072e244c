use Rattle.tv_farkas.specs.Stretching.{AreDivided}
use Rattle.tv_farkas.proofs.points.divided.Given as goal

abbrev pub invariant-columns : goal.invariant-columns
invariant-columns l = AreDivided l.column l.values l.fn.scale l.xs.items
