-- Falls of the ranks after what covers show.
use Rattle.std.specs.Prelude.{◌≡◌, ℕ, ◌-◌, ◌<◌, List, [], ◌∷◌, ◌++◌, length, take, drop, All, ℤ, Option, Some, None}
use Rattle.tv_linear.specs.Arithmetic.{zeros}
use Rattle.tv_linear.specs.Linear.{columns, IsWithin}
use Rattle.tv_linear.specs.Known.{Known, KnownHeld}
use Rattle.tv_linear.specs.Covers.{Shown, IsMetCover}
use Rattle.tv_linear.specs.Depth.{splits}
use Rattle.tv_linear.specs.declared.cover.CoverTree.{CoverTree}
use Rattle.tv_farkas.specs.Trees.{TreeRows}
use Rattle.tv_shape.specs.Narrow.{CoverNarrow}
use Rattle.tv_rank.specs.Given.{lists}
use Rattle.tv_lexrank.specs.Closing.{owed_plain}
use Rattle.tv_lexrank.specs.declared.falling.Fall.{Fall}

-- the line with `many` zeros put in at a place
abbrev pub put_in : ℕ → ℕ → List ℤ → List ℤ
put_in place many line = take place line ++ (zeros many ++ drop place line)

-- the line with `above` zeros before its last number
abbrev pub spread : ℕ → List ℤ → List ℤ
spread above line = put_in (length line - 1) above line

-- each number of the lines is below 2^62 in magnitude
abbrev pub AreNarrowLines : List (List ℤ) → Type 0
AreNarrowLines lines = All (All (IsWithin 62)) lines

-- the numbers of each row can be told
abbrev pub AllHeld : ℕ → List Known → Type 0
AllHeld n [] = Unit {0}
AllHeld n (k ∷ ks) = ((j : ℕ) → j < n → KnownHeld k (Some j)) × KnownHeld k None × AllHeld n ks

-- Where the lines show the rows of a fall, and the old cover is met by what is owed without it, the new one is met by what is owed with it.
-- `above` of the rows at the place are those of the splits above.
abbrev pub GoesOn : Fall → ℕ → CoverTree → CoverTree → Type 0
GoesOn fall above old new =
    (n : ℕ) (known sides rows falls : List Known) (wanted : ℕ → ℕ → Option (List Known)) →
    length sides ≡ above → AllHeld n sides → Shown n known falls (lists fall.lines.items) → wanted 0 fall.number ≡ Some (rows ++ falls) →
    IsMetCover n (owed_plain rows) (known ++ sides) old → IsMetCover n wanted (known ++ sides) new

-- the second cover is the first with the fall; it splits at the same rows
pub record HasFall (fall : Fall) (above : ℕ) (old new : CoverTree) : Type 0 where
  pub goes_on : GoesOn fall above old new
  pub deep : splits new ≡ splits old
  pub even : (n : ℕ) → TreeRows (λ r. columns r ≡ n) old → TreeRows (λ r. columns r ≡ n) new
  pub narrow : CoverNarrow new
