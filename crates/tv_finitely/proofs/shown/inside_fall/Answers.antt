use Rattle.std.proofs.Common.{◌∙◌, ◌-◌, ◌++◌, ◌∷◌, ap, arith, refl, length}
use Rattle.tv_lexrank.specs.Rounds.{lines_of}
use Rattle.tv_finitely.specs.Lines.{zero_lines}
use Rattle.tv_finitely.proofs.shown.inside_fall.Goals as goal

pub returns-then-fallen-rounds : goal.returns-then-fallen-rounds
returns-then-fallen-rounds c =
    let lines = c.in_ok-fallen.ensures.lines ∙ ap (λ z. z ∷ lines_of c.args.number c.args.rounds.now) c.in_ok-first.ensures in
    let e = c.in_ok-fallen.ensures.round in
    let t = c.if-fallen-rounds.true in
    record {
      falls = λ h. (omega (arith, e), lines);
      keeps = λ h. absurd (omega (arith, e, t, h));
    }

pub returns : goal.returns
returns c =
    let lines = c.in_ok-fallen.ensures.lines ∙ ap (λ z. z ∷ lines_of c.args.number c.args.rounds.now) c.in_ok-first.ensures in
    let e = c.in_ok-fallen.ensures.round in
    let f = c.if-fallen-rounds.false in
    record {
      falls = λ h. absurd (omega (arith, e, f, h));
      keeps = λ h. (refl, c.in_ok-push_zero_lines.ensures ∙ ap (λ z. z ++ zero_lines c.args.met (c.args.count - 1 - length c.args.rounds.now)) lines);
    }
