use Rattle.std.proofs.Common.{length, arith, ap, ◌∙◌, sym}
use Rattle.tv_rank.specs.Questions.{ways_of, many_of}
use Rattle.tv_nested.proofs.Lengths.{no_unknowns}
use Rattle.tv_nested.proofs.Read.{no_terms, all_terms}
use Rattle.tv_nested.proofs.reading.terms_with.Goals as goal

pub locations-init : goal.locations-init
locations-init c =
    let s = c.args.solved.now in
    let q = s.asked.now in
    let none = c.span_of-span.ensures.none_below in
    record {
      terms = c.new-terms.ensures.items ∙ sym (no_terms (ways_of q) (many_of q) s.depth q.variables s.values.now c.args.number c.span_of-span.result.low none);
      place = ap length (sym (no_unknowns (ways_of q) (many_of q) s.depth q.variables c.span_of-span.result.low none));
    }

pub returns : goal.returns
returns c =
    let s = c.args.solved.now in
    let q = s.asked.now in
    let e = c.span_of-span.ensures in
    let past = c.locations-test.false in
    let some = e.some in
    let within = e.within in
    let end = c.locations.auto.location-end (omega (arith, some)) in
    c.locations.invariant.terms ∙ sym (all_terms (ways_of q) (many_of q) s.depth q.variables s.values.now c.args.number c.locations.location q.locations (omega (arith, end, within)) (λ l k. e.none_past l (omega (arith, k, past))))
