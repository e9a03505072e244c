-- How many pieces the regions of a formula have, where no case has a draw.
use Rattle.std.specs.Prelude.{◌≡◌, ℕ, ◌*◌, ◌<◌, ◌≤◌, List, length, map}
use Rattle.tv_formula.specs.declared.tree.Path.{Path}
use Rattle.tv_formula.specs.declared.tree.Shape.{Shape}
use Rattle.tv_formula.specs.declared.tree.Shape.TheVariants.{Until, Weak, Release, Strong}
use Rattle.tv_formula.specs.Properties.{Property}
use Rattle.tv_linear.specs.declared.region.Region.{Region}
use Rattle.tv_cases.specs.Comparisons.{comparison_lists}
use Rattle.tv_cases.specs.LinearCases.{CaseSystem}
use Rattle.tv_cert.specs.Statements.{Statement, stated}
use Rattle.tv_known.specs.Cycles.{IsLastRound}
use Rattle.tv_known.specs.Laws.{StandsIn}
use Rattle.tv_known.specs.Sizes.{some_count, next_count, staying_count, fix_count, count, IsSize}
use Rattle.tv_region.specs.Regions.{lists_at, count_at}
use Rattle.tv_region.specs.StepRegions.{HasNoDraws}
use Rattle.tv_pre.specs.declared.ranked_along.RankedAlong.{RankedAlong}
use Rattle.tv_pre.specs.declared.ranked_along.RankedAlong.TheVariants.{Everywhere, Unsettled, Untold}
use Rattle.tv_pre.specs.declared.sides.Sides.{Sides}
use Rattle.tv_pre.specs.Parts.{joined_pieces}

-- ---- the formula

-- Whatever formula the statement is of, the region has at each location no more pieces than are counted for the formula, with the rounds of
-- its fixpoints up to the last that the size takes.
abbrev pub IsFewFor : CaseSystem → Statement → Region → Type 0
IsFewFor about s region =
    HasNoDraws about → (last : ℕ) → IsLastRound about 9 last → (f : Property) → s ≡ stated (comparison_lists about.variables) f →
    (l : ℕ) → count_at l region ≤ count about.cases last f l

-- then it has no more pieces at a location than the size of each property in whose normal form or negation the formula stands
abbrev pub FewIsWithinSize : CaseSystem → Property → Property → Region → Type 0
FewIsWithinSize about f part region =
    HasNoDraws about → StandsIn f part → IsFewFor about (stated (comparison_lists about.variables) part) region →
    (n : ℕ) → IsSize about f n → (l : ℕ) → l < about.locations → count_at l region ≤ n

-- how many pieces each of the regions has at the location
abbrev pub counts_at : ℕ → List Region → List ℕ
counts_at l regions = map (λ r. count_at l r) regions

-- ---- going back

-- no more pieces than are counted for the states before a region that has at most b l pieces at each location l
abbrev pub IsFewBefore : CaseSystem → Path → Region → Region → Type 0
IsFewBefore about path into region =
    HasNoDraws about → (b : ℕ → ℕ) → ((l : ℕ) → count_at l into ≤ b l) →
    (l : ℕ) → count_at l region ≤ next_count about.cases path b l

-- the same of those that stay in such a region
abbrev pub IsFewStaying : CaseSystem → Path → Region → Region → Type 0
IsFewStaying about path into region =
    HasNoDraws about → (b : ℕ → ℕ) → ((l : ℕ) → count_at l into ≤ b l) →
    (l : ℕ) → count_at l region ≤ staying_count about.cases path b l

-- ---- fixpoints

-- of the argument that is to hold on the way, for the counts of both
abbrev pub hold_count : Shape → (ℕ → ℕ) → (ℕ → ℕ) → ℕ → ℕ
hold_count Until f g l = f l
hold_count Weak f g l = f l
hold_count Release f g l = g l
hold_count Strong f g l = g l

-- of those that are to hold at the end, together
abbrev pub end_count : Shape → (ℕ → ℕ) → (ℕ → ℕ) → ℕ → ℕ
end_count Until f g l = g l
end_count Weak f g l = g l
end_count Release f g l = f l * g l
end_count Strong f g l = f l * g l

-- at each location the regions of the arguments have no more pieces than these numbers
pub record AreCounted (sides : Sides) (f g : ℕ → ℕ) : Type 0 where
  pub first : (l : ℕ) → count_at l sides.first.now ≤ f l
  pub second : (l : ℕ) → count_at l sides.second.now ≤ g l

-- the region of the states at the end has no more than are counted for them
abbrev pub IsFewEnd : Sides → Region → Type 0
IsFewEnd sides end = (f g : ℕ → ℕ) → AreCounted sides f g → (l : ℕ) → count_at l end ≤ end_count sides.shape f g l

-- so has that of the states on the way that stay in a region with at most b l pieces at each location l
abbrev pub IsFewOnward : CaseSystem → Sides → Region → Region → Type 0
IsFewOnward about sides into region =
    HasNoDraws about → (f g b : ℕ → ℕ) → AreCounted sides f g → ((l : ℕ) → count_at l into ≤ b l) →
    (l : ℕ) → count_at l region ≤ hold_count sides.shape f g l * staying_count about.cases sides.path b l

-- that of the states on the way with a step
abbrev pub IsFewGoing : CaseSystem → Sides → Region → Type 0
IsFewGoing about sides region =
    HasNoDraws about → (f g : ℕ → ℕ) → AreCounted sides f g →
    (l : ℕ) → count_at l region ≤ hold_count sides.shape f g l * some_count about.cases (λ k. 1) l

-- and that of the fixpoint
abbrev pub IsFewAlong : CaseSystem → Sides → Region → Type 0
IsFewAlong about sides region =
    HasNoDraws about → (last : ℕ) → IsLastRound about 9 last → (f g : ℕ → ℕ) → AreCounted sides f g →
    (l : ℕ) → count_at l region ≤ fix_count about.cases last sides.path sides.shape f g l

-- the same of the pieces of these regions together
abbrev pub IsFewJoined : CaseSystem → Sides → List Region → Type 0
IsFewJoined about sides regions =
    HasNoDraws about → (last : ℕ) → IsLastRound about 9 last → (f g : ℕ → ℕ) → AreCounted sides f g →
    (l : ℕ) → length (lists_at l (joined_pieces regions)) ≤ fix_count about.cases last sides.path sides.shape f g l

-- where the ranks tell that it holds everywhere
abbrev pub IsFewRanked : CaseSystem → Sides → RankedAlong → Type 0
IsFewRanked about sides (Everywhere part) = IsFewAlong about sides part.region
IsFewRanked about sides (Unsettled nodes region) = Unit {0}
IsFewRanked about sides (Untold nodes region fault) = Unit {0}
