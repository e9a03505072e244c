use Rattle.std.proofs.Common.{◌∙◌, sym, ap, ◌+◌, length, arith}
use Rattle.tv_rank.specs.Questions.{ways_of, many_of}
use Rattle.tv_rank.proofs.Lengths.{terms-within}
use Rattle.tv_rank.proofs.Locals.{no_unknowns, all_unknowns, no_terms, all_terms}
use Rattle.tv_rank.proofs.reading.read_terms.Goals as goal

pub push_term-requires-clause-inside : goal.push_term-requires-clause-inside
push_term-requires-clause-inside c =
    let q = c.args.asked.now in
    let t = c.locations-test.true in
    let w = c.span_of-span.ensures.within in
    let h = terms-within (ways_of q) (many_of q) q.variables (c.locations.location + 1) q.locations (omega (arith, t, w)) in
    let i = c.requires.inside in
    omega (arith, h, i)

pub locations-init : goal.locations-init
locations-init c =
    let q = c.args.asked.now in
    let none = c.span_of-span.ensures.none_below in
    record {
      terms = c.new-terms.ensures.items ∙ sym (no_terms (ways_of q) (many_of q) q.variables c.args.values.now c.span_of-span.result.low none);
      place = ap length (sym (no_unknowns (ways_of q) (many_of q) q.variables c.span_of-span.result.low none));
    }

pub returns-clause-terms : goal.returns-clause-terms
returns-clause-terms c =
    let q = c.args.asked.now in
    let s = c.span_of-span.ensures in
    let past = c.locations-test.false in
    let some = s.some in
    let within = s.within in
    let end = c.locations.auto.location-end (omega (arith, some)) in
    c.locations.invariant.terms ∙ sym (all_terms (ways_of q) (many_of q) q.variables c.args.values.now c.locations.location q.locations (omega (arith, end, within)) (λ l k. s.none_past l (omega (arith, k, past))))

pub returns-clause-place : goal.returns-clause-place
returns-clause-place c =
    let q = c.args.asked.now in
    let s = c.span_of-span.ensures in
    let past = c.locations-test.false in
    let some = s.some in
    let within = s.within in
    let end = c.locations.auto.location-end (omega (arith, some)) in
    c.locations.invariant.place ∙ ap length (sym (all_unknowns (ways_of q) (many_of q) q.variables c.locations.location q.locations (omega (arith, end, within)) (λ l k. s.none_past l (omega (arith, k, past)))))
