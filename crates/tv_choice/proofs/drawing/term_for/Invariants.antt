use Rattle.tv_choice.proofs.drawing.term_for.Given as goal

abbrev pub invariant-rows : goal.invariant-rows
invariant-rows l = Unit
