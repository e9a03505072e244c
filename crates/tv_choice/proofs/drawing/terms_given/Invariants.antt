use Rattle.std.proofs.Common.{◌≡◌, ◌++◌, drop, map}
use Rattle.tv_choice.specs.Targets.{terms_given}
use Rattle.tv_choice.proofs.drawing.terms_given.Given as goal

abbrev pub invariant-rows : goal.invariant-rows
invariant-rows l = terms_given l.columns l.rows ≡ map (λ x. x.items) l.lists.items ++ terms_given l.columns (drop l.row-index l.rows)
