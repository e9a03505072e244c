-- What is read of covers.
use Rattle.std.specs.Prelude.{◌≡◌, ℕ, ◌≤◌, ◌+◌, ℤ, pos, false, List, [], ◌∷◌, Option, Some, Result}
use Rattle.tv_lines.specs.Lines.{formed}
use Rattle.tv_lines.specs.declared.head.Head.{Head}
use Rattle.tv_linear.specs.Linear.{Linear}
use Rattle.tv_linear.specs.Depth.{splits}
use Rattle.tv_linear.specs.declared.cover.CoverTree.{CoverTree, Split'}
use Rattle.tv_cert.specs.Shapes.{CoverShape}
use Rattle.tv_cert_reader.specs.CertificateLines.{cover_lines}
use Rattle.tv_cert_reader.specs.CoverGrammar.{cover}
use Rattle.tv_cert_reader.specs.declared.cursor.Cursor.{Cursor}
use Rattle.tv_cert_reader.specs.declared.failure.Failure.{Failure}
use Rattle.tv_cert_reader.specs.Reading.{Reads, Takes}

-- the line is the one before what is left
pub record IsBehind (head : Head) (zs : List ℤ) (old new : Cursor) : Type 0 where
  pub front : Takes (formed head zs ∷ []) old new
  pub one : new.taken ≡ old.taken + 1

-- the numbers name this target and fall, which owe `rows` rows
pub record IsTarget (counts : ℕ → ℕ → Option ℕ) (zs : List ℤ) (target fall rows : ℕ) : Type 0 where
  pub numbers : zs ≡ pos target ∷ pos fall ∷ []
  pub owes : counts target fall ≡ Some rows

-- the numbers name no target and fall
abbrev pub NamesNone : (ℕ → ℕ → Option ℕ) → List ℤ → Type 0
NamesNone counts zs = (target fall rows : ℕ) → zs ≡ pos target ∷ pos fall ∷ [] → counts target fall ≡ Some rows → ⊥

-- the tree is a split at the row, with these sides
abbrev pub IsSplitOf : Linear → CoverTree → CoverTree → CoverTree → Type 0
IsSplitOf row holds fails (Split' r p a q b) = (r ≡ row) × (a ≡ holds) × (b ≡ fails)
IsSplitOf row holds fails _ = ⊥

-- a cover of this shape with at most `left` splits on a path
pub record IsCoverWithin (width : ℕ) (counts : ℕ → ℕ → Option ℕ) (known left : ℕ) (tree : CoverTree) : Type 0 where
  pub shape : CoverShape width counts known tree
  pub shallow : splits tree ≤ left

-- such a cover is read
abbrev pub ReadsTree : ℕ → (ℕ → ℕ → Option ℕ) → ℕ → ℕ → Cursor → Cursor → Result CoverTree Failure → Type 0
ReadsTree width counts known left old new result = Reads (λ t. t) (IsCoverWithin width counts known left) cover_lines (cover false left width known counts) old new result
