-- The lines that begin nodes and pieces.
use Rattle.std.specs.Prelude.{◌≡◌, ℕ, ◌<◌, ◌^◌, ℤ, pos, Bool, true, false, List, [], ◌∷◌}
use Rattle.tv_lines.specs.declared.head.Head.{Head}
use Rattle.tv_lines.specs.declared.head.Head.TheVariants as heads
use Rattle.tv_lines.specs.declared.head.NodeKind.{NodeKind}
use Rattle.tv_cert.specs.declared.node.Mark.{Mark}
use Rattle.tv_cert.specs.Pieces.{is_go}
use Rattle.tv_cert_reader.specs.CertificateLines.{mark_named}

-- the head and the numbers of a piece with this mark, location and number of rows
pub record IsPieceHead (locations : ℕ) (done : Bool) (head : Head) (zs : List ℤ) (mark : Mark) (location count : ℕ) : Type 0 where
  pub opening : head ≡ heads.Piece (mark_named mark)
  pub numbers : zs ≡ pos location ∷ pos count ∷ []
  pub place : location < locations
  pub marked : done ≡ false → is_go mark ≡ true

-- those of a node of this kind with `count` pieces and `m` ranks
pub record IsNodeHead (kind : NodeKind) (ranked : Bool) (head : Head) (zs : List ℤ) (count m : ℕ) : Type 0 where
  pub opening : head ≡ heads.Node kind
  pub numbers : zs ≡ pos count ∷ pos m ∷ []
  pub ranks : ranked ≡ false → m ≡ 0
  pub small : m < 2 ^ 32
