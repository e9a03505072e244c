-- Covers into one target, and the choices that are made of them.
use Rattle.std.specs.Prelude.{◌≡◌, List, All}
use Rattle.tv_linear.specs.Linear.{Linear, IsNarrow}
use Rattle.tv_linear.specs.declared.cover.CoverTree.{CoverTree}
use Rattle.tv_linear.specs.declared.choice.ChoiceTree.{ChoiceTree}
use Rattle.tv_cases.specs.Systems.{cases_of}
use Rattle.tv_points.specs.PointRows.{number_rows}
use Rattle.tv_recur.specs.Choosing.{IsChoiceOf}
use Rattle.tv_recur.specs.declared.taking.Taking.{Taking}

-- The choice is that of the cover, where it takes the case with its numbers. Each number is narrow.
pub record IsTakenBy (t : Taking) (old : CoverTree) (new : ChoiceTree) : Type 0 where
  pub draws : List Linear
  pub numbers : draws ≡ number_rows (cases_of t.about.now).variables t.draws.now
  pub narrow : All IsNarrow draws
  pub same : IsChoiceOf t.number t.place draws old new
