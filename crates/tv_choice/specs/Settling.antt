use Rattle.std.specs.Prelude.{◌≡◌, ℕ, ◌≤◌, List, ◌∷◌, length, ℤ, All, IsTrue, Vec}
use Rattle.std.specs.Global.{Global}
use Rattle.tv_linear.specs.Linear.{Linear, columns, IsMet, IsNarrow}
use Rattle.tv_linear.specs.Known.{Known, given, denied}
use Rattle.tv_linear.specs.ChoiceDepth.{choice_splits}
use Rattle.tv_linear.specs.declared.choice.ChoiceTree.{ChoiceTree, Split', Empty, NoStep, Take}
use Rattle.tv_linear.specs.Same.{SameNumbers}
use Rattle.tv_farkas.specs.Paths.{IsWholePoint}
use Rattle.tv_farkas.specs.Refuting.{AreShort}
use Rattle.tv_farkas.specs.declared.branch.Branch.{Branch}
use Rattle.tv_farkas.specs.declared.splitting.Halves.{Halves}
use Rattle.tv_farkas.specs.declared.fault.CoverFault.{CoverFault}
use Rattle.tv_farkas.specs.declared.fault.CoverFault.TheVariants.{Splits, Solve, Wide, Memory}
use Rattle.tv_cert.specs.Choices.{IsMetChoice}
use Rattle.tv_cert.specs.Shapes.{ChoiceShape}
use Rattle.tv_shape.specs.Narrow.{ChoiceNarrow}
use Rattle.tv_choice.specs.declared.choosing.Found.{Found}
use Rattle.tv_choice.specs.declared.choosing.Found.TheVariants as found
use Rattle.tv_choice.specs.declared.ways.Way.{Way}
use Rattle.tv_choice.specs.Leading.{Query, region_owes, IsHole, IsServed, Leads}
use Rattle.tv_choice.specs.ChoicePaths.{IsPointHere, IsSplit}
use Rattle.tv_choice.specs.Same.{AreKnown}

-- The tree is a met choice at the rows. No integer point of the rows is a hole.
pub record IsTreeAt (n : ℕ) (q : Query) (rows : List Linear) (left : ℕ) (tree : ChoiceTree) : Type 0 where
  pub met : (known : List Known) → AreKnown rows known → IsMetChoice n q.system.cases q.location q.stop (region_owes n q.pieces) known tree
  pub shallow : choice_splits tree ≤ left
  pub shape : ChoiceShape n q.system.cases q.location q.stop (region_owes n q.pieces) (length rows) tree
  pub narrow : ChoiceNarrow tree
  pub none : (xs : List ℤ) → IsWholePoint n rows xs → IsServed q xs

-- a hole that meets the rows
pub record IsHoleAt (n : ℕ) (q : Query) (rows : List Linear) (xs : List ℤ) : Type 0 where
  pub inside : IsWholePoint n rows xs
  pub hole : IsHole q xs
  pub short : AreShort xs

abbrev pub IsFound : ℕ → Query → List Linear → ℕ → Found → Type 0
IsFound n q rows left (found.Tree tree) = IsTreeAt n q rows left tree
IsFound n q rows left (found.Hole values) = IsHoleAt n q rows values.items

-- the tree is a split at the row, which is narrow, into the two trees
abbrev pub IsSplitOf : Linear → ChoiceTree → ChoiceTree → ChoiceTree → Type 0
IsSplitOf row holds fails (Split' r p h q f) = (r ≡ row) × (h ≡ holds) × (f ≡ fails) × IsNarrow row
IsSplitOf row holds fails (Empty ms) = ⊥
IsSplitOf row holds fails (NoStep covers) = ⊥
IsSplitOf row holds fails (Take taken target fall draws lists) = ⊥

-- the tree takes the way, whose terms are narrow
abbrev pub IsTakeOf : Way → Vec (Vec ℤ Global) Global → ChoiceTree → Type 0
IsTakeOf w all (Split' r p h q f) = ⊥
IsTakeOf w all (Empty ms) = ⊥
IsTakeOf w all (NoStep covers) = ⊥
IsTakeOf w all (Take taken target fall draws lists) =
    (taken ≡ w.taken) × (target ≡ w.target) × (fall ≡ 0) × (draws.items ≡ w.draws.items) × (lists ≡ all) × All IsNarrow w.draws.items

-- an integer point of the rows, from which some step leads where a state without a step may stop
pub record IsGoing (n : ℕ) (q : Query) (rows : List Linear) (xs : List ℤ) : Type 0 where
  pub inside : IsWholePoint n rows xs
  pub short : AreShort xs
  pub leads : IsTrue q.stop → Leads q.system q.location xs
  pub here : IsPointHere n q rows xs

-- The two sides of a split: the second has the numbers of the denial of the first, and may stand on a path once each integer point of the
-- first is served.
pub record AreHalves (n : ℕ) (q : Query) (rows : List Linear) (halves : Halves) : Type 0 where
  pub first_even : columns halves.first.row ≡ n
  pub second_even : columns halves.second.row ≡ n
  pub opposite : (w : ℕ) → SameNumbers w (given halves.second.row) (denied (given halves.first.row))
  pub either : (xs : List ℤ) → (IsMet xs halves.first.row → ⊥) → IsMet xs halves.second.row
  pub first_splits : IsSplit n q rows halves.first
  pub second_splits : ((xs : List ℤ) → IsWholePoint n rows xs → IsMet xs halves.first.row → IsServed q xs) → IsSplit n q rows halves.second

-- the refusal with a split in front of its path
abbrev pub IsPutBefore : Branch → CoverFault → CoverFault → Type 0
IsPutBefore branch (Splits path) (Splits new) = new.items ≡ branch ∷ path.items
IsPutBefore branch (Splits path) (Solve kept fault) = ⊥
IsPutBefore branch (Splits path) (Wide column) = ⊥
IsPutBefore branch (Splits path) Memory = ⊥
IsPutBefore branch (Solve kept fault) f = f ≡ Solve kept fault
IsPutBefore branch (Wide column) f = f ≡ Wide column
IsPutBefore branch Memory f = f ≡ Memory
