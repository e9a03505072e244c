use Rattle.std.proofs.Common.{◌∙◌, sym, arith}
use Rattle.tv_rank.specs.Questions.{ways_of, many_of}
use Rattle.tv_nested.proofs.Places.{terms-more}
use Rattle.tv_nested.proofs.Room.{terms_end}
use Rattle.tv_nested.proofs.reading.place_after.Goals as goal

pub overflow_add-result-then-touches : goal.overflow_add-result-then-touches
overflow_add-result-then-touches c =
    let s = c.args.solved.now in
    let e = terms_end s c.args.location c.requires.within (sym c.touches.ensures ∙ c.if-touches.true) in
    let p = c.requires.place in
    let f = s.few in
    omega (arith, e, p, f)

pub returns-then-touches : goal.returns-then-touches
returns-then-touches c =
    let s = c.args.solved.now in
    let m = terms-more (ways_of s.asked.now) (many_of s.asked.now) s.depth s.asked.now.variables c.args.location (sym c.touches.ensures ∙ c.if-touches.true) in
    let p = c.requires.place in
    omega (arith, m, p)
