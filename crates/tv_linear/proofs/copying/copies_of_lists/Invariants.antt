use Rattle.std.proofs.Common.{◌≡◌, map, take}
use Rattle.tv_linear.proofs.copying.copies_of_lists.Given as goal

abbrev pub invariant-loop-list : goal.invariant-loop-list
invariant-loop-list l = map (λ k. k.items) l.copies.items ≡ map (λ k. k.items) (take l.list-index l.lists)
