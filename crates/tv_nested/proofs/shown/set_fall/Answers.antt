use Rattle.std.proofs.Common.{◌∙◌, ◌+◌, ◌++◌, [], ◌∷◌, map, ap, append_assoc, pos}
use Rattle.std.proofs.lemmas.List.{map_push}
use Rattle.tv_linear.specs.Arithmetic.{zeros}
use Rattle.tv_rank.specs.Given.{lists}
use Rattle.tv_lexrank.specs.Rounds.{falls_in, lines_of}
use Rattle.tv_nested.specs.Lines.{own_line, under_line}
use Rattle.tv_nested.specs.SetFalls.{step_lines}
use Rattle.tv_nested.proofs.shown.set_fall.Goals as goal

pub returns : goal.returns
returns c =
    let rounds = c.deref.ensures.value in
    let first = ap lists c.deref-2.ensures.value ∙ c.in_ok-fallen.ensures.lines ∙ (λ i. c.in_ok-zero_line.ensures i ∷ lines_of c.args.number (rounds i)) in
    let before = c.in_ok-lines.ensures ∙ ap (map (under_line (c.args.piece + 1) 0)) first in
    let lines =
    ap lists c.in_ok-push_item.ensures
    ∙ map_push (λ v. v.items) c.push_steps.new.all.items c.in_ok-own_line.field-0
    ∙ (λ i. (c.in_ok-push_steps.ensures ∙ ap (λ z. z ++ step_lines c.args.part.now.family c.args.place c.args.piece) before) i ++ c.in_ok-own_line.ensures i ∷ [])
    ∙ append_assoc (map (under_line (c.args.piece + 1) 0) ((zeros c.args.met ++ pos 1 ∷ []) ∷ lines_of c.args.number c.args.part.now.rounds.items)) (step_lines c.args.part.now.family c.args.place c.args.piece) (own_line (c.args.piece + 1 + c.args.met) c.args.piece ∷ []) in
    (ap (λ z. z + 2 + c.args.piece) (c.in_ok-fallen.ensures.round ∙ ap (falls_in c.args.number) rounds), lines)
