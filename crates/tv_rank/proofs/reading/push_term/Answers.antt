use Rattle.std.proofs.Common.{length, arith, ◌∙◌, sym}
use Rattle.tv_rank.specs.Questions.{ways_of}
use Rattle.tv_rank.proofs.Lengths.{terms-more, room_for_term}
use Rattle.tv_rank.proofs.reading.push_term.Goals as goal

pub term_of-requires-clause-inside : goal.term_of-requires-clause-inside
term_of-requires-clause-inside c =
    let h = room_for_term (ways_of c.args.asked.now) (length c.args.asked.now.set.now) c.args.asked.now.variables c.args.location (length c.args.values.now) (sym c.touches.ensures ∙ c.if-touches.true) c.requires.inside in
    let p = c.requires.place in
    omega (arith, h, p)

pub returns-then-touches-clause-behind : goal.returns-then-touches-clause-behind
returns-then-touches-clause-behind c =
    let h = terms-more (ways_of c.args.asked.now) (length c.args.asked.now.set.now) c.args.asked.now.variables c.args.location (sym c.touches.ensures ∙ c.if-touches.true) in
    let p = c.requires.place in
    omega (arith, h, p)
