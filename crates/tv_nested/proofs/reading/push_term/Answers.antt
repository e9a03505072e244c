use Rattle.std.proofs.Common.{◌∙◌, sym, arith}
use Rattle.tv_nested.proofs.Room.{term_ends}
use Rattle.tv_nested.proofs.reading.push_term.Goals as goal

pub overflow_add-start : goal.overflow_add-start
overflow_add-start c =
    let s = c.args.solved.now in
    let e = term_ends s c.args.number c.args.location c.requires.number c.requires.within (sym c.touches.ensures ∙ c.if-touches.true) in
    let p = c.requires.place in
    let f = s.few in
    omega (arith, e, p, f)

pub term_of-requires-clause-inside : goal.term_of-requires-clause-inside
term_of-requires-clause-inside c =
    let s = c.args.solved.now in
    let e = term_ends s c.args.number c.args.location c.requires.number c.requires.within (sym c.touches.ensures ∙ c.if-touches.true) in
    let p = c.requires.place in
    omega (arith, e, p)
