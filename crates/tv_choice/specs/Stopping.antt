use Rattle.std.specs.Prelude.{◌≡◌, ℕ, ◌+◌, ◌≤◌, List, ◌++◌, length, take, All, ℤ}
use Rattle.tv_linear.specs.Linear.{Linear, IsMet}
use Rattle.tv_linear.specs.Known.{Known, as_given}
use Rattle.tv_linear.specs.Covers.{no_target, IsMetCover}
use Rattle.tv_linear.specs.declared.cover.CoverTree.{CoverTree}
use Rattle.tv_linear.specs.Depth.{splits}
use Rattle.tv_linear.specs.ChoiceDepth.{most_splits}
use Rattle.tv_farkas.specs.Refuting.{AreShort}
use Rattle.tv_farkas.specs.Trees.{TreeNumbers}
use Rattle.tv_farkas.specs.Paths.{IsWholePoint}
use Rattle.tv_farkas.specs.EmptyPaths.{IsWholePointOf}
use Rattle.tv_cover.specs.declared.emptied.Emptied.{Emptied}
use Rattle.tv_cover.specs.declared.emptied.Emptied.TheVariants as emptied
use Rattle.tv_cases.specs.LinearCases.{LinearCase, leaving}
use Rattle.tv_cert.specs.Choices.{NoStepMet}
use Rattle.tv_cert.specs.Shapes.{CoverShape, NoStepShape, owed_count}
use Rattle.tv_shape.specs.Narrow.{CoverNarrow}
use Rattle.tv_choice.specs.declared.stopping.Stopped.{Stopped}
use Rattle.tv_choice.specs.declared.stopping.Stopped.TheVariants as stopped
use Rattle.tv_choice.specs.Leading.{Query, Leads}
use Rattle.tv_choice.specs.ChoicePaths.{starting_rows, IsPointHere}
use Rattle.tv_choice.specs.Same.{AreKnown}

-- the tree is a cover without targets of the rows and the guards of the case
pub record IsStopTree (n : ℕ) (rows : List Linear) (c : LinearCase) (left : ℕ) (tree : CoverTree) : Type 0 where
  pub met : (known : List Known) → AreKnown rows known → IsMetCover (n + c.draws) no_target (known ++ as_given c.guards) tree
  pub shallow : splits tree ≤ left
  pub shape : CoverShape (n + c.draws) (owed_count no_target) (length rows + length c.guards) tree
  pub short : TreeNumbers AreShort tree
  pub none : (zs : List ℤ) → IsWholePoint (n + c.draws) (starting_rows rows c) zs → ⊥

-- a point and draws that meet the guards of the case, with the values of the point
pub record IsStart (n : ℕ) (rows : List Linear) (c : LinearCase) (values : List ℤ) : Type 0 where
  pub size : length values ≡ n + c.draws
  pub short : AreShort values
  pub inside : IsWholePoint n rows (take n values)
  pub guards : All (IsMet values) c.guards
  pub origin : IsWholePointOf (n + c.draws) (starting_rows rows c) values

abbrev pub IsStoppedBy : ℕ → List Linear → LinearCase → ℕ → Emptied → Type 0
IsStoppedBy n rows c left (emptied.Tree cover) = IsStopTree n rows c left cover
IsStoppedBy n rows c left (emptied.Whole values) = IsStart n rows c values.items

-- covers without targets for the cases from the location, so that none can be taken
pub record AreStopTrees (n : ℕ) (q : Query) (rows : List Linear) (left : ℕ) (covers : List CoverTree) : Type 0 where
  pub met : (known : List Known) → AreKnown rows known → NoStepMet n known (leaving q.location q.system.cases) covers
  pub shallow : most_splits covers ≤ left
  pub shape : NoStepShape n (length rows) (leaving q.location q.system.cases) covers
  pub narrow : All CoverNarrow covers
  pub none : (xs : List ℤ) → IsWholePoint n rows xs → Leads q.system q.location xs → ⊥

-- an integer point of the rows from which some step leads
pub record IsLeading (n : ℕ) (q : Query) (rows : List Linear) (xs : List ℤ) : Type 0 where
  pub inside : IsWholePoint n rows xs
  pub short : AreShort xs
  pub leads : Leads q.system q.location xs
  pub here : IsPointHere n q rows xs

abbrev pub IsStopped : ℕ → Query → List Linear → ℕ → Stopped → Type 0
IsStopped n q rows left (stopped.Nowhere covers) = AreStopTrees n q rows left covers.items
IsStopped n q rows left (stopped.Somewhere point) = IsLeading n q rows point.items
