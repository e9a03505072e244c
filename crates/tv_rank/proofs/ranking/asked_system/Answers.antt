use Rattle.std.proofs.Common.{◌∙◌, All, sym, subst}
use Rattle.tv_rank.specs.Given.{IsPlaced}
use Rattle.tv_rank.specs.Questions.{ways_of, many_of}
use Rattle.tv_rank.proofs.Wholes.{lines_placed}
use Rattle.tv_rank.proofs.ranking.asked_system.Goals as goal

pub system_of-requires-clause-placed : goal.system_of-requires-clause-placed
system_of-requires-clause-placed c =
    let q = c.args.asked.now in
    subst (All (λ x. IsPlaced (many_of q) x.identity)) (sym (c.deref-2.ensures.value ∙ c.in-Ok-line_list.ensures)) (lines_placed (ways_of q) (many_of q) q.falling q.variables)
