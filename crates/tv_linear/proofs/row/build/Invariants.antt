use Rattle.std.specs.Prelude.{All}
use Rattle.tv_linear.specs.Linear.{IsWithin}
use Rattle.tv_linear.proofs.Building.{IsMadeTo}
use Rattle.tv_linear.proofs.row.build.Given as goal

abbrev pub invariant-loop-column : goal.invariant-loop-column
invariant-loop-column g l = record {
  made : IsMadeTo (g.C.Columns.fits l.wanted) (g.C.Columns.meant l.wanted) l.coefficients.items l.column;
  narrow : All (IsWithin 62) l.coefficients.items;
}
