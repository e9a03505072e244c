-- Covers by pieces over which the ranks of a program fall.
use Rattle.std.specs.Prelude.{◌≡◌, ℕ, suc, ◌<◌, ◌≤◌, List, ◌++◌, length, Option, None, Some, true, false}
use Rattle.tv_linear.specs.Linear.{columns}
use Rattle.tv_linear.specs.Known.{Known}
use Rattle.tv_linear.specs.Covers.{Shown, IsMetCover}
use Rattle.tv_linear.specs.Depth.{splits}
use Rattle.tv_linear.specs.declared.cover.CoverTree.{CoverTree}
use Rattle.tv_linear.specs.declared.region.Piece.{Piece}
use Rattle.tv_farkas.specs.Trees.{TreeRows}
use Rattle.tv_cases.specs.LinearCases.{LinearCase, CaseSystem}
use Rattle.tv_cert.specs.declared.node.Marked.{Marked}
use Rattle.tv_cert.specs.declared.node.Proof.TheVariants.{Covered}
use Rattle.tv_cert.specs.Claims.{about_with}
use Rattle.tv_cert.specs.Obligations.{step_of, step_fall}
use Rattle.tv_cert.specs.Pieces.{place_of, goes, ranks_of}
use Rattle.tv_shape.specs.Narrow.{CoverNarrow}
use Rattle.tv_shape.specs.Made.{IsOffered}
use Rattle.tv_rank.specs.Given.{lists}
use Rattle.tv_choice.specs.Leading.{piece_rows}
use Rattle.tv_lexrank.specs.declared.falling.Fall.{Fall}
use Rattle.tv_lexrank.specs.Falling.{AllHeld}
use Rattle.tv_lexrank.specs.More.{way_with}
use Rattle.tv_lexrank.specs.Shown.{FallsBy, ranks_there}
use Rattle.tv_pre.specs.Pieces.{IsMarked, AreMarked}
use Rattle.tv_pre.specs.Ranked.{EachOf}

-- The targets before the first one owe what they owed; each later one also owes the rows of a fall, which the lines show under the known
-- rows.
pub record IsOwedWith (n first : ℕ) (known : List Known) (fall : Fall) (owed wanted : ℕ → ℕ → Option (List Known)) : Type 0 where
  pub before : (k : ℕ) → k < first → wanted k 0 ≡ owed k 0
  pub onward : (k : ℕ) (rows : List Known) → first ≤ k → owed k 0 ≡ Some rows → (falls : List Known) × (wanted k fall.number ≡ Some (rows ++ falls)) × Shown n known falls (lists fall.lines.items)
  pub only : (k j : ℕ) → owed k (suc j) ≡ None

-- Where the old cover is met by what is owed, the new one is met by what is owed with a fall. `above` is the number of the rows at
-- the place that are those of the splits above.
abbrev pub GoesLower : Fall → ℕ → ℕ → CoverTree → CoverTree → Type 0
GoesLower fall first above old new =
    (n : ℕ) (known sides : List Known) (owed wanted : ℕ → ℕ → Option (List Known)) → length sides ≡ above → AllHeld n sides →
    IsOwedWith n first known fall owed wanted → IsMetCover n owed (known ++ sides) old → IsMetCover n wanted (known ++ sides) new

-- the second cover is the first with the fall at the targets from number `first` on; it splits at the same rows
pub record IsLowered (fall : Fall) (first above : ℕ) (old new : CoverTree) : Type 0 where
  pub lower : GoesLower fall first above old new
  pub deep : splits new ≡ splits old
  pub even : (n : ℕ) → TreeRows (λ r. columns r ≡ n) old → TreeRows (λ r. columns r ≡ n) new
  pub narrow : CoverNarrow new

-- ---- the pieces of a node by the ranks of another node
-- the piece goes on, with the ranks that those pieces have at its location
abbrev pub IsRankedAs : List Marked → Marked → Type 0
IsRankedAs ranked p = (goes p ≡ true) × (ranks_of p ≡ ranks_there ranked (place_of p))

-- A piece of a node that goes on with these ranks, as all pieces do that stand after those that are done; all of them are those that are
-- entered.
pub record IsPlaced (ranked : List Marked) (q : Piece) (done into : List Piece) (p : Marked) (all : List Marked) : Type 0 where
  pub dones : List Marked
  pub onward : List Marked
  pub parts : all ≡ dones ++ onward
  pub marked : IsMarked p q
  pub ranks : ranks_of p ≡ ranks_there ranked q.location
  pub done_with : EachOf (λ d. goes d ≡ false) dones
  pub go_on : EachOf (IsRankedAs ranked) onward
  pub done_are : AreMarked dones done
  pub all_are : AreMarked all into

-- the cover is offered for the obligation that the case leads from the piece into these pieces, with a fall into those that go on
abbrev pub ShowsRankedStep : CaseSystem → List Marked → Piece → LinearCase → List Piece → List Piece → CoverTree → Type 0
ShowsRankedStep about ranked q c done into tree =
    (number : ℕ) (p : Marked) (all : List Marked) → IsPlaced ranked q done into p all →
    IsOffered (step_of number (about_with about) p all (step_fall (about_with about) p) c) (Covered tree)

-- the ranks at the locations of a case fall so over it, where the rows of the piece are met
abbrev pub FallsFrom : CaseSystem → List Marked → Piece → LinearCase → Fall → Type 0
FallsFrom about ranked q c fall = FallsBy about.variables (way_with c (piece_rows q)) (ranks_there ranked c.from) (ranks_there ranked c.to) fall
