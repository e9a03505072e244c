use Rattle.tv_finitely.specs.Obligations.{case_owes}
use Rattle.tv_finitely.specs.Splits.{split_of, marked_cases}
use Rattle.tv_finitely.proofs.Walking.{Shaped}
use Rattle.tv_finitely.proofs.shape.after_piece.Given as goal

abbrev pub invariant-cases : goal.invariant-cases
invariant-cases l = let s = split_of l.about in Shaped (case_owes s.system l.pieces l.piece) (marked_cases s) l.proofs l.fn.from l.number l.next
