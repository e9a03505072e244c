use Rattle.std.specs.Prelude.{List, [], ◌∷◌, ◌++◌}
use Rattle.tv_linear.specs.Known.{Known, as_given}
use Rattle.tv_linear.specs.Views.{rows_seen}
use Rattle.tv_refute.specs.Built.{built}
use Rattle.tv_refute.specs.declared.frames.Frames.{Frames, End, Rows', More'}

-- the rows known at a place, the outermost first
abbrev pub known_at : Frames → List Known
known_at End = []
known_at (Rows' rows p above) = known_at above ++ as_given (rows_seen rows)
known_at (More' row p above) = known_at above ++ built row.now ∷ []
