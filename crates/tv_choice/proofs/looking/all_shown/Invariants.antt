use Rattle.std.proofs.Common.{map, take}
use Rattle.tv_choice.specs.Looking.{AreShown}
use Rattle.tv_choice.proofs.looking.all_shown.Given as goal

abbrev pub invariant-owed : goal.invariant-owed
invariant-owed l = AreShown l.question.columns l.place.rows.now (take l.number l.owed) (map (λ x. x.items) l.lists.items)
