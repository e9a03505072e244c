-- What is owed of the steps over cases, and the covers that show it.
use Rattle.std.specs.Prelude.{◌≡◌, ℕ, zero, suc, ◌+◌, ◌≤◌, List, ◌++◌, map, ℤ, Option, None}
use Rattle.std.specs.Option.{option_map}
use Rattle.std.specs.List.{AllZip}
use Rattle.tv_linear.specs.Linear.{Linear, columns}
use Rattle.tv_linear.specs.Known.{Known}
use Rattle.tv_linear.specs.Covers.{IsMetCover}
use Rattle.tv_linear.specs.declared.cover.CoverTree.{CoverTree}
use Rattle.tv_linear.specs.declared.cover.CoverTree as cover
use Rattle.tv_linear.specs.Depth.{splits}
use Rattle.tv_farkas.specs.Trees.{TreeRows}
use Rattle.tv_shape.specs.Narrow.{CoverNarrow}
use Rattle.tv_cases.specs.LinearCases.{LinearCase}
use Rattle.tv_cases.specs.Systems.{cases_of}
use Rattle.tv_rank.specs.Given.{lists}
use Rattle.tv_rank.specs.Ways.{Way, way_of, case_at, rows_at}
use Rattle.tv_lexrank.specs.declared.fault.RankFault.{RankFault}
use Rattle.tv_lexrank.specs.declared.falling.Fall.{Fall}
use Rattle.tv_lexrank.specs.declared.shown.CaseShown.{CaseShown}
use Rattle.tv_lexrank.specs.declared.ranking.Ranking.{Ranking}
use Rattle.tv_lexrank.specs.Attempt.{PartsFrom, ranks_in}
use Rattle.tv_lexrank.specs.Known.{way_rows}
use Rattle.tv_lexrank.specs.Closing.{changed, RefusesClosed}
use Rattle.tv_lexrank.specs.Shown.{owed_fall, FallsBy, IsShownBy, way_under}

-- what is owed on entering the one piece where a way leads, from these ranks to those: its rows, and then those of a fall
abbrev pub owed_step : ℕ → Way → List Linear → List Linear → List Linear → ℕ → ℕ → Option (List Known)
owed_step v w into old new zero j = option_map (λ falls. map (changed v w) into ++ falls) (owed_fall v w old new j)
owed_step v w into old new (suc target) j = None

-- The cover of a step over a case is met: it shows that the case leads into these rows and that these ranks fall to those, or that it is never
-- taken. Its numbers are below 2^62 in magnitude.
pub record IsStepCover (v : ℕ) (w : Way) (into old new : List Linear) (tree : CoverTree) : Type 0 where
  pub met : IsMetCover (v + w.taken.draws) (owed_step v w into old new) (way_rows w) tree
  pub shallow : splits tree ≤ 128
  pub even : TreeRows (λ r. columns r ≡ v + w.taken.draws) tree
  pub narrow : CoverNarrow tree

-- the components are ranked
abbrev pub AreRanked : Ranking → Type 0
AreRanked r = PartsFrom (cases_of r.about.now) r.known.now.pieces.items r.numbers.now 0 r.parts.now

-- the way of a case, and the ranks at a location
abbrev pub way_in : Ranking → ℕ → Way
way_in r k = way_of (cases_of r.about.now).cases r.known.now.pieces.items k

abbrev pub ranks_of : Ranking → ℕ → List Linear
ranks_of r l = ranks_in (cases_of r.about.now).variables r.numbers.now r.parts.now l

-- the rows that are known at a location
abbrev pub rows_known : Ranking → ℕ → List Linear
rows_known r l = rows_at r.known.now.pieces.items l

-- the cover shows what is owed of a step over the case
abbrev pub ShowsStep : Ranking → ℕ → CoverTree → Type 0
ShowsStep r k tree =
    let w = way_in r k in
    IsStepCover (cases_of r.about.now).variables w (rows_known r w.taken.to) (ranks_of r w.taken.from) (ranks_of r w.taken.to) tree

-- a refusal of such a cover: the case leads out of the known rows, or it is not settled whether it does
abbrev pub RefusesStep : Ranking → RankFault → Type 0
RefusesStep r e = RefusesClosed (cases_of r.about.now) r.known.now.pieces.items r.budget.now e

-- the fall has this number, and these lines
abbrev pub IsFall : ℕ → List (List ℤ) → Fall → Type 0
IsFall j lines fall = (fall.number ≡ j) × (lists fall.lines.items ≡ lines)

-- the ranks fall so over the case
abbrev pub FallsOver : Ranking → ℕ → Fall → Type 0
FallsOver r k fall =
    let w = way_in r k in
    FallsBy (cases_of r.about.now).variables w (ranks_of r w.taken.from) (ranks_of r w.taken.to) fall

-- what shows a case by the ranks of a ranking
abbrev pub ShowsOver : Ranking → LinearCase → CaseShown → Type 0
ShowsOver r c shown =
    IsShownBy (cases_of r.about.now).variables (way_under r.known.now.pieces.items c) (ranks_of r c.from) (ranks_of r c.to) shown

abbrev pub ShowsCase : Ranking → ℕ → CaseShown → Type 0
ShowsCase r k shown = ShowsOver r (case_at (cases_of r.about.now).cases k) shown

-- one for each of these cases
abbrev pub ShowsThese : Ranking → List LinearCase → List CaseShown → Type 0
ShowsThese r cases shown = AllZip (ShowsOver r) cases shown

abbrev pub ShowsEach : Ranking → List CaseShown → Type 0
ShowsEach r shown = ShowsThese r (cases_of r.about.now).cases shown

-- the cover refutes the rows of its place by these multipliers
abbrev pub IsRefutation : List ℤ → CoverTree → Type 0
IsRefutation multipliers (cover.Split' r p a q b) = ⊥
IsRefutation multipliers (cover.Empty ms) = ms.items ≡ multipliers
IsRefutation multipliers (cover.Into target fall ls) = ⊥
