-- The rows owed on entering a piece.
use Rattle.std.specs.Prelude.{List, [], ◌∷◌, pos, ◌&&◌}
use Rattle.tv_linear.specs.Linear.{Linear}
use Rattle.tv_linear.specs.Known.{Known, given, less}
use Rattle.tv_linear.specs.Falls.{zero_row}
use Rattle.tv_refute.specs.Built.{change_of}
use Rattle.tv_cert.specs.Pieces.{goes}
use Rattle.tv_points.specs.Taking.{fall_owed, entered_rows}
use Rattle.tv_points.specs.declared.falls.Entering.{Entering}

-- the new rank, changed, is less than the old one
abbrev pub less_row : (Linear → Known) → Linear → Linear → Known
less_row change old new = less (change new) (given old) (pos 1)

-- the old rank is not below 0
abbrev pub not_below_row : Linear → Known
not_below_row old = less (given zero_row) (given old) (pos 0)

abbrev pub fall_rows : (Linear → Known) → Linear → Linear → List Known
fall_rows change old new = less_row change old new ∷ not_below_row old ∷ []

-- those of the fall that is owed, and all
abbrev pub owed_falls : Entering → List Known
owed_falls e = fall_owed (e.falls && goes e.into.now) (change_of e.change.now) e.from.now e.into.now

abbrev pub entering_rows : Entering → List Known
entering_rows e = entered_rows e.falls (change_of e.change.now) e.from.now e.into.now
