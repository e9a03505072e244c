-- What shows of a case that no run takes it without end.
use Rattle.std.specs.Prelude.{ℕ, ◌+◌, List, [], ◌∷◌, map, All, ℤ, Option}
use Rattle.std.specs.List.{AllZip}
use Rattle.tv_linear.specs.Linear.{Linear, IsWithin}
use Rattle.tv_linear.specs.Known.{Known, as_given}
use Rattle.tv_linear.specs.Covers.{ShownAt}
use Rattle.tv_linear.specs.Falls.{fall_rows}
use Rattle.tv_linear.specs.declared.region.Piece.{Piece}
use Rattle.tv_cases.specs.LinearCases.{LinearCase, CaseSystem}
use Rattle.tv_cert.specs.declared.node.Marked.{Marked}
use Rattle.tv_cert.specs.Pieces.{pieces_at, ranks_of}
use Rattle.tv_rank.specs.Given.{lists}
use Rattle.tv_rank.specs.Ways.{Way, rows_at}
use Rattle.tv_lexrank.specs.declared.falling.Fall.{Fall}
use Rattle.tv_lexrank.specs.declared.shown.CaseShown.{CaseShown}
use Rattle.tv_lexrank.specs.declared.shown.CaseShown.TheVariants.{Untaken, Falls}
use Rattle.tv_lexrank.specs.Known.{way_rows}
use Rattle.tv_lexrank.specs.Closing.{changed}
use Rattle.tv_lexrank.specs.Falling.{AreNarrowLines}
use Rattle.tv_lexrank.specs.Sorting.{IsNeverTaken}

-- the rows of a fall over a way, counted from 1, from these ranks to those
abbrev pub owed_fall : ℕ → Way → List Linear → List Linear → ℕ → Option (List Known)
owed_fall v w old new j = fall_rows (as_given old) (map (changed v w) new) j

-- Ranks fall over a way from these to those: under the rows that are met where it is taken, the lines show the rows of the fall, one each.
-- Their numbers are below 2^62 in magnitude.
pub record FallsBy (v : ℕ) (w : Way) (old new : List Linear) (fall : Fall) : Type 0 where
  pub shown : ShownAt (v + w.taken.draws) (way_rows w) (owed_fall v w old new fall.number) (lists fall.lines.items)
  pub narrow : AreNarrowLines (lists fall.lines.items)

-- The multipliers refute the rows that are met where a way is taken. They are below 2^62 in magnitude.
pub record RefutesWay (v : ℕ) (w : Way) (ms : List ℤ) : Type 0 where
  pub refutes : IsNeverTaken v w ms
  pub narrow : All (IsWithin 62) ms

-- what shows a way, where these ranks lie before it and those after it
abbrev pub IsShownBy : ℕ → Way → List Linear → List Linear → CaseShown → Type 0
IsShownBy v w old new (Untaken ms) = RefutesWay v w ms.items
IsShownBy v w old new (Falls fall) = FallsBy v w old new fall

-- ---- by the pieces of a node
-- a case, with the rows that are known where it starts
abbrev pub way_under : List Piece → LinearCase → Way
way_under known c = record { taken = c; known = rows_at known c.from }

-- the ranks of the first piece of a list
abbrev pub first_ranks : List Marked → List Linear
first_ranks [] = []
first_ranks (p ∷ ps) = ranks_of p

-- the ranks of the first piece at a location
abbrev pub ranks_there : List Marked → ℕ → List Linear
ranks_there pieces l = first_ranks (pieces_at pieces l)

-- what shows a case by the ranks of the first pieces where it starts and where it ends
abbrev pub IsShownIn : CaseSystem → List Piece → List Marked → LinearCase → CaseShown → Type 0
IsShownIn about known pieces c shown =
    IsShownBy about.variables (way_under known c) (ranks_there pieces c.from) (ranks_there pieces c.to) shown

-- one for each case, in their order
abbrev pub AreShown : CaseSystem → List Piece → List Marked → List CaseShown → Type 0
AreShown about known pieces shown = AllZip (IsShownIn about known pieces) about.cases shown
