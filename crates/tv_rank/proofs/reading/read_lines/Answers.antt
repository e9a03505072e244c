use Rattle.std.proofs.Common.{◌≡◌, ◌+◌, ◌++◌, ◌∷◌, [], suc, length, arith, ap, ◌∙◌}
use Rattle.tv_rank.specs.Questions.{ways_of}
use Rattle.tv_rank.specs.Reading.{line_read, lines_read}
use Rattle.tv_rank.proofs.Lengths.{steps-more, steps-within}
use Rattle.tv_rank.proofs.reading.read_lines.Goals as goal

pub push_line-requires-clause-inside : goal.push_line-requires-clause-inside
push_line-requires-clause-inside c =
    let w = ways_of c.args.asked.now in
    let t = c.places-test.true in
    let m = steps-more w c.places.step in
    let h = steps-within w (c.places.step + 1) (length c.args.asked.now.set.now) (omega (arith, t)) in
    let i = c.requires.inside in
    let p = c.places.invariant.place in
    omega (arith, h, i, m, p)

pub places-preserved : goal.places-preserved
places-preserved c =
    let w = ways_of c.args.asked.now in
    let m = steps-more w c.places.step in
    let b = c.in_ok-place.ensures.behind in
    let p = c.places.invariant.place in
    record {
      lines =
          c.in_ok-place.ensures.pushed
          ∙ (λ i. c.places.invariant.lines i ++ line_read c.args.values.now (p i) (w c.places.step) ∷ [])
          ∙ ap (λ z. lines_read w c.args.values.now c.args.start z) (let e : suc c.places.step ≡ c.places.step + 1 = omega arith in e);
      place = omega (arith, m, b, p);
    }
