use Rattle.tv_simplex.specs.Views.{equations}
use Rattle.tv_simplex.specs.Walking.{AreSigned}
use Rattle.tv_simplex.proofs.answering.signed_numbers.Given as goal

abbrev pub invariant-rows : goal.invariant-rows
invariant-rows l = AreSigned (equations l.system) l.row l.numbers l.y.items
