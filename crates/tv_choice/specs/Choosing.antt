-- What a choice gives.
use Rattle.std.specs.Prelude.{ℕ, ◌≤◌, List, ℤ, Bool}
use Rattle.tv_linear.specs.Linear.{Linear}
use Rattle.tv_linear.specs.Known.{Known}
use Rattle.tv_linear.specs.ChoiceDepth.{choice_splits}
use Rattle.tv_linear.specs.declared.region.Piece.{Piece}
use Rattle.tv_linear.specs.declared.region.Region.{Region}
use Rattle.tv_farkas.specs.Paths.{IsWholePoint}
use Rattle.tv_farkas.specs.Refuting.{AreShort}
use Rattle.tv_farkas.specs.Stretching.{AreSides}
use Rattle.tv_cases.specs.declared.case.Cases.{Cases}
use Rattle.tv_cases.specs.Systems.{cases_of}
use Rattle.tv_cert.specs.Choices.{IsMetChoice}
use Rattle.tv_cert.specs.Shapes.{ChoiceShape}
use Rattle.tv_shape.specs.Narrow.{ChoiceNarrow}
use Rattle.tv_choice.specs.declared.chosen.Chosen.{Chosen}
use Rattle.tv_choice.specs.declared.chosen.Chosen.TheVariants.{Tree, Hole}
use Rattle.tv_choice.specs.Leading.{Query, place_of, region_owes, IsHole, IsServed}

-- what is asked of the cases, from a piece into a region
abbrev pub query : Cases → Piece → Region → Bool → Query
query about ambient into stop = record { system = cases_of about; location = place_of ambient; stop = stop; pieces = into.pieces.items }

-- the known rows have the numbers of these rows, over any columns, and they can be told
abbrev pub AreKnownAs : List Linear → List Known → Type 0
AreKnownAs rows known = (w : ℕ) → AreSides w rows known

-- the tree is a met choice into the pieces at any known rows that have the numbers of these; or the values are a hole that meets them
abbrev pub IsChosen : ℕ → Query → List Linear → Chosen → Type 0
IsChosen n q rows (Tree choice) =
    (known : List Known) → AreKnownAs rows known → IsMetChoice n q.system.cases q.location q.stop (region_owes n q.pieces) known choice
IsChosen n q rows (Hole values) = IsWholePoint n rows values.items × IsHole q values.items

-- a tree is given only where no integer point of the rows is a hole
abbrev pub HasNoHole : ℕ → Query → List Linear → Chosen → Type 0
HasNoHole n q rows (Tree choice) = (xs : List ℤ) → IsWholePoint n rows xs → IsServed q xs
HasNoHole n q rows (Hole values) = Unit {0}

-- the tree has the shape of a choice at `count` rows
abbrev pub HasShape : ℕ → Query → ℕ → Chosen → Type 0
HasShape n q count (Tree choice) = ChoiceShape n q.system.cases q.location q.stop (region_owes n q.pieces) count choice
HasShape n q count (Hole values) = Unit {0}

-- at most `most` splits lie on a path of a tree, counting into the covers
abbrev pub IsShallow : ℕ → Chosen → Type 0
IsShallow most (Tree choice) = choice_splits choice ≤ most
IsShallow most (Hole values) = Unit {0}

-- each number of a tree, and each number of a hole, is below 2^62 in magnitude
abbrev pub IsShortChosen : Chosen → Type 0
IsShortChosen (Tree choice) = ChoiceNarrow choice
IsShortChosen (Hole values) = AreShort values.items
