use Rattle.std.proofs.Common.{◌≡◌, suc, ◌+◌, ◌*◌, ◌++◌, ◌∷◌, [], arith, ap, ◌∙◌, pos}
use Rattle.tv_cases.proofs.AmountLemmas.{suc-times}
use Rattle.std.proofs.lemmas.List.{map-append}
use Rattle.tv_rank.specs.Given.{lists}
use Rattle.tv_rank.specs.Reading.{multipliers_read}
use Rattle.tv_nested.specs.ReadOff.{size_at, way_of}
use Rattle.tv_nested.proofs.Room.{line_ends}
use Rattle.tv_nested.proofs.reading.lines_at.Goals as goal

pub line_of-requires-clause-inside : goal.line_of-requires-clause-inside
line_of-requires-clause-inside c =
    let e = line_ends c.args.solved.now c.args.step c.identities.index c.requires.step (let t = c.identities-test.true in omega (arith, t)) in
    let p = c.identities.invariant.place in
    let m = c.met_count-count.ensures in
    omega (arith, e, p, m)

pub overflow_add-place : goal.overflow_add-place
overflow_add-place c =
    let e = line_ends c.args.solved.now c.args.step c.identities.index c.requires.step (let t = c.identities-test.true in omega (arith, t)) in
    let m = c.met_count-count.ensures in
    let f = c.args.solved.now.few in
    omega (arith, e, m, f)

pub overflow_add-place-in-identities : goal.overflow_add-place-in-identities
overflow_add-place-in-identities c =
    let e = line_ends c.args.solved.now c.args.step c.identities.index c.requires.step (let t = c.identities-test.true in omega (arith, t)) in
    let p = c.identities.invariant.place in
    let m = c.met_count-count.ensures in
    let f = c.args.solved.now.few in
    omega (arith, e, p, m, f)

pub identities-preserved : goal.identities-preserved
identities-preserved c =
    let s = c.args.solved.now in
    let p = c.identities.invariant.place in
    let m = c.met_count-count.ensures in
    let t = suc-times c.identities.index (size_at s c.args.step) in
    record {
      lines =
          ap lists c.in_ok-push_item.ensures
          ∙ map-append (λ v. v.items) c.identities.lines.items (c.in_ok-line_of.field-0 ∷ [])
          ∙ (λ i. lists c.identities.lines.items ++ c.in_ok-line_of.ensures i ∷ [])
          ∙ (λ i. c.identities.invariant.lines i ++ (multipliers_read s.values.now (p i) (m i) ++ pos 1 ∷ []) ∷ [])
          ∙ ap (way_of s c.args.step) (let e : suc c.identities.index ≡ c.identities.index + 1 = omega arith in e);
      place = (let e : suc c.identities.index * size_at s c.args.step ≡ (c.identities.index + 1) * size_at s c.args.step = ap (λ z. z * size_at s c.args.step) (let e : suc c.identities.index ≡ c.identities.index + 1 = omega arith in e) in omega (arith, p, m, t, e));
    }

pub returns : goal.returns
returns c =
    let past = c.identities-test.false in
    let end = c.identities.auto.index-end in
    c.identities.invariant.lines ∙ ap (way_of c.args.solved.now c.args.step) (let e : c.identities.index ≡ suc c.args.solved.now.depth = omega (arith, past, end) in e)
