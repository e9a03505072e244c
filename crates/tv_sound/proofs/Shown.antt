-- What proofs that are met show, piece by piece.
use Rattle.std.specs.Prelude.{◌≡◌, ℕ, ◌+◌, ◌++◌, List, Option, Bool, Contains}
use Rattle.tv_linear.specs.declared.cover.CoverTree.{CoverTree}
use Rattle.tv_linear.specs.declared.choice.ChoiceTree.{ChoiceTree}
use Rattle.tv_linear.specs.Linear.{Linear}
use Rattle.tv_linear.specs.Known.{Known, given, as_given}
use Rattle.tv_linear.specs.Covers.{IsMetCover}
use Rattle.tv_cases.specs.LinearCases.{LinearCase}
use Rattle.tv_cert.specs.declared.node.Marked.{Marked}
use Rattle.tv_cert.specs.Pieces.{place_of, rows_of}
use Rattle.tv_cert.specs.Targets.{changed_lists, owed_into, no_fall}
use Rattle.tv_cert.specs.Choices.{IsMetChoice, ChoiceFits}
use Rattle.tv_cert.specs.Obligations.{case_change}

-- a cover of the piece into the pieces of a region
pub record PieceCovered (n : ℕ) (p : Marked) (into : List Marked) : Type 0 where
  pub tree : CoverTree
  pub met : IsMetCover n (owed_into into (place_of p) given no_fall) (as_given (rows_of p)) tree

-- a cover of the piece into lists of rows
pub record AtomCovered (n : ℕ) (p : Marked) (targets : List (List Linear)) : Type 0 where
  pub tree : CoverTree
  pub met : IsMetCover n (changed_lists given targets) (as_given (rows_of p)) tree

-- a step cover: the piece, over the case, into the pieces
pub record StepCovered (n : ℕ) (p : Marked) (c : LinearCase) (into : List Marked) (fall : Marked → ℕ → Option (List Known)) : Type 0 where
  pub tree : CoverTree
  pub met : IsMetCover (n + c.draws) (owed_into into c.to (case_change n c) fall) (as_given (rows_of p) ++ as_given c.guards) tree

-- for each case from the piece's location a step cover
abbrev pub AllStepsCovered : ℕ → List LinearCase → Marked → List Marked → (LinearCase → Marked → ℕ → Option (List Known)) → Type 0
AllStepsCovered n cases p into fall = (c : LinearCase) → Contains cases c → c.from ≡ place_of p → StepCovered n p c into (fall c)

-- a choice at the piece
pub record HasChoice (n : ℕ) (cases : List LinearCase) (p : Marked) (stop : Bool) (owed : LinearCase → List Linear → ℕ → ℕ → Option (List Known)) : Type 0 where
  pub tree : ChoiceTree
  pub fits : ChoiceFits n tree
  pub met : IsMetChoice n cases (place_of p) stop owed (as_given (rows_of p)) tree
