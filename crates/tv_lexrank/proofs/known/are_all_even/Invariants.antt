use Rattle.std.proofs.Common.{◌≡◌, All, take}
use Rattle.tv_linear.specs.Linear.{columns}
use Rattle.tv_lexrank.specs.Known.{piece_rows}
use Rattle.tv_lexrank.proofs.known.are_all_even.Given as goal

abbrev pub invariant-pieces : goal.invariant-pieces
invariant-pieces l = All (λ p. All (λ r. columns r ≡ l.columns) (piece_rows p)) (take l.piece-index l.known)
