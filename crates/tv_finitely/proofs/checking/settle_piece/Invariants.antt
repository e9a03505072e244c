use Rattle.tv_finitely.specs.Obligations.{case_owes}
use Rattle.tv_finitely.specs.Splits.{split_of, marked_cases}
use Rattle.tv_finitely.proofs.Walking.{Settled}
use Rattle.tv_finitely.proofs.checking.settle_piece.Given as goal

abbrev pub invariant-cases : goal.invariant-cases
invariant-cases l = let s = split_of l.about in Settled (case_owes s.system l.pieces l.piece) (marked_cases s) l.proofs l.fn.met l.number l.next
