use Rattle.std.proofs.Common.{◌∙◌, sym, arith}
use Rattle.tv_rank.specs.Questions.{ways_of, many_of}
use Rattle.tv_nested.proofs.Lengths.{no_unknowns, all_unknowns}
use Rattle.tv_nested.proofs.listing.term_list.Goals as goal

pub locations-init : goal.locations-init
locations-init c =
    let q = c.args.asked.now in
    c.new-items.ensures.items ∙ sym (no_unknowns (ways_of q) (many_of q) c.args.depth q.variables c.span_of-span.result.low c.span_of-span.ensures.none_below)

pub returns : goal.returns
returns c =
    let q = c.args.asked.now in
    let s = c.span_of-span.ensures in
    let past = c.locations-test.false in
    let some = s.some in
    let within = s.within in
    let end = c.locations.auto.location-end (omega (arith, some)) in
    c.locations.invariant ∙ sym (all_unknowns (ways_of q) (many_of q) c.args.depth q.variables c.locations.location q.locations (omega (arith, end, within)) (λ l k. s.none_past l (omega (arith, k, past))))
