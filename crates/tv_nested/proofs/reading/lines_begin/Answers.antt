use Rattle.std.proofs.Common.{length, arith, ap, ◌∙◌, sym}
use Rattle.tv_rank.specs.Questions.{ways_of, many_of}
use Rattle.tv_nested.proofs.Lengths.{no_unknowns, all_unknowns}
use Rattle.tv_nested.proofs.reading.lines_begin.Goals as goal

pub locations-init : goal.locations-init
locations-init c =
    let s = c.args.solved.now in
    let q = s.asked.now in
    ap length (sym (no_unknowns (ways_of q) (many_of q) s.depth q.variables c.span_of-span.result.low c.span_of-span.ensures.none_below))

pub returns : goal.returns
returns c =
    let s = c.args.solved.now in
    let q = s.asked.now in
    let e = c.span_of-span.ensures in
    let past = c.locations-test.false in
    let some = e.some in
    let within = e.within in
    let end = c.locations.auto.location-end (omega (arith, some)) in
    c.locations.invariant ∙ ap length (sym (all_unknowns (ways_of q) (many_of q) s.depth q.variables c.locations.location q.locations (omega (arith, end, within)) (λ l k. e.none_past l (omega (arith, k, past)))))
