use Rattle.tv_choice.proofs.differing.has_way.Given as goal

abbrev pub invariant-ways : goal.invariant-ways
invariant-ways l = Unit
