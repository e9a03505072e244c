use Rattle.std.proofs.Common.{◌≡◌, suc, ◌+◌, ◌*◌, ◌++◌, ◌∷◌, [], arith, ap, ◌∙◌}
use Rattle.std.proofs.lemmas.List.{map-append}
use Rattle.tv_rank.specs.Given.{lists}
use Rattle.tv_rank.specs.Questions.{ways_of}
use Rattle.tv_nested.specs.Reading.{lines_of_cases}
use Rattle.tv_nested.specs.ReadOff.{size_at, lines_until}
use Rattle.tv_nested.proofs.Places.{steps-more}
use Rattle.tv_nested.proofs.Room.{lines_end, line_ends}
use Rattle.tv_nested.proofs.reading.lines_with.Goals as goal

pub overflow_add-place-in-places : goal.overflow_add-place-in-places
overflow_add-place-in-places c =
    let e = line_ends c.args.solved.now c.places.step 0 c.places-test.true (omega arith) in
    let m = c.met_count.ensures in
    let f = c.args.solved.now.few in
    omega (arith, e, m, f)

pub overflow_mul-place : goal.overflow_mul-place
overflow_mul-place c =
    let s = c.args.solved.now in
    let e = lines_end s c.places.step c.places-test.true in
    let m : (s.depth + 1) * (c.met_count.result + 1) ≡ suc s.depth * size_at s c.places.step = (λ i. (one i) * (c.met_count.ensures i + 1)) in
    let f = s.few in
    omega (arith, e, m, f)
  where
    one : c.args.solved.now.depth + 1 ≡ suc c.args.solved.now.depth
    one = omega arith

pub overflow_add-place-in-places-2 : goal.overflow_add-place-in-places-2
overflow_add-place-in-places-2 c =
    let s = c.args.solved.now in
    let e = lines_end s c.places.step c.places-test.true in
    let m : (s.depth + 1) * (c.met_count.result + 1) ≡ suc s.depth * size_at s c.places.step = (λ i. (one i) * (c.met_count.ensures i + 1)) in
    let p = c.places.invariant.place in
    let f = s.few in
    omega (arith, e, m, p, f)
  where
    one : c.args.solved.now.depth + 1 ≡ suc c.args.solved.now.depth
    one = omega arith

pub places-preserved : goal.places-preserved
places-preserved c =
    let s = c.args.solved.now in
    let m : (s.depth + 1) * (c.met_count.result + 1) ≡ suc s.depth * size_at s c.places.step = (λ i. (one i) * (c.met_count.ensures i + 1)) in
    let p = c.places.invariant.place in
    let t = steps-more (ways_of s.asked.now) s.depth c.places.step in
    record {
      lines =
          ap lines_of_cases c.in_ok-push_item.ensures
          ∙ map-append (λ v. lists v.items) c.places.lines.items (c.in_ok-lines_at.field-0 ∷ [])
          ∙ (λ i. c.places.invariant.lines i ++ c.in_ok-lines_at.ensures i ∷ [])
          ∙ ap (lines_until s) (let e : suc c.places.step ≡ c.places.step + 1 = omega arith in e);
      place = omega (arith, m, p, t);
    }
  where
    one : c.args.solved.now.depth + 1 ≡ suc c.args.solved.now.depth
    one = omega arith
