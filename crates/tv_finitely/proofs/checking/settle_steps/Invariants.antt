use Rattle.tv_finitely.specs.Obligations.{piece_owes}
use Rattle.tv_finitely.specs.Splits.{split_of}
use Rattle.tv_finitely.proofs.Walking.{Settled}
use Rattle.tv_finitely.proofs.checking.settle_steps.Given as goal

abbrev pub invariant-pieces : goal.invariant-pieces
invariant-pieces l = Settled (piece_owes (split_of l.about) l.pieces) l.pieces l.proofs 0 l.number l.next
