-- The numbers that are written of a certificate are below 2^62 in magnitude, as those of a text are.
use Rattle.std.specs.Prelude.{ℕ, ℤ, pos, List, All, length}
use Rattle.std.specs.Global.{Vec}
use Rattle.tv_linear.specs.Linear.{Linear, IsWithin}
use Rattle.tv_linear.specs.declared.cover.CoverTree.{CoverTree}
use Rattle.tv_linear.specs.declared.cover.CoverTree as cover
use Rattle.tv_linear.specs.declared.choice.ChoiceTree.{ChoiceTree}
use Rattle.tv_linear.specs.declared.choice.ChoiceTree as choice
use Rattle.tv_cert.specs.declared.node.Marked.{Marked}
use Rattle.tv_cert.specs.declared.node.Proof.{Proof}
use Rattle.tv_cert.specs.declared.node.Proof.TheVariants.{Covered, Chosen}
use Rattle.tv_cert.specs.Pieces.{place_of, rows_of, ranks_of}

abbrev pub AreNarrow : List ℤ → Type 0
AreNarrow ms = All (IsWithin 62) ms

abbrev pub ListsNarrow : List (Vec ℤ) → Type 0
ListsNarrow lists = All (λ l. AreNarrow l.items) lists

-- a place in a list, or how many things there are
abbrev pub CountNarrow : ℕ → Type 0
CountNarrow n = IsWithin 62 (pos n)

-- the numbers of a row or of a term
pub record RowNarrow (r : Linear) : Type 0 where
  pub coefficients : AreNarrow r.coefficients
  pub constant : IsWithin 62 r.constant

-- each number of the cover
abbrev pub CoverNarrow : CoverTree → Type 0
CoverNarrow (cover.Split' r p a q b) = RowNarrow r × CoverNarrow a × CoverNarrow b
CoverNarrow (cover.Empty ms) = AreNarrow ms.items
CoverNarrow (cover.Into k j lists) = CountNarrow k × CountNarrow j × ListsNarrow lists.items

-- each number of the choice
abbrev pub ChoiceNarrow : ChoiceTree → Type 0
ChoiceNarrow (choice.Split' r p a q b) = RowNarrow r × ChoiceNarrow a × ChoiceNarrow b
ChoiceNarrow (choice.Empty ms) = AreNarrow ms.items
ChoiceNarrow (choice.NoStep covers) = All CoverNarrow covers.items
ChoiceNarrow (choice.Take c k j draws lists) = CountNarrow c × CountNarrow k × CountNarrow j × All RowNarrow draws.items × ListsNarrow lists.items

abbrev pub ProofNarrow : Proof → Type 0
ProofNarrow (Covered tree) = CoverNarrow tree
ProofNarrow (Chosen tree) = ChoiceNarrow tree

-- each number of the piece
pub record PieceNarrow (p : Marked) : Type 0 where
  pub place : CountNarrow (place_of p)
  pub count : CountNarrow (length (rows_of p))
  pub rows : All RowNarrow (rows_of p)
  pub ranks : All RowNarrow (ranks_of p)

-- each number of a node's own lines: how many pieces and ranks it has, and the numbers of its pieces and its proofs
pub record PartsNarrow (m : ℕ) (ps : List Marked) (proofs : List Proof) : Type 0 where
  pub count : CountNarrow (length ps)
  pub ranks : CountNarrow m
  pub pieces : All PieceNarrow ps
  pub offered : All ProofNarrow proofs
