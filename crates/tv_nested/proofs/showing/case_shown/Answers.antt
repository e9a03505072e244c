use Rattle.std.proofs.Common.{◌∙◌, ◌+◌, length, ap, sym, arith}
use Rattle.tv_nested.specs.Ranks.{component_of, signs_at}
use Rattle.tv_nested.specs.Signs.{sign_rows}
use Rattle.tv_nested.proofs.CaseLemmas.{leaving_case}
use Rattle.tv_nested.proofs.showing.case_shown.Goals as goal

pub returns : goal.returns
returns c =
    let r = c.args.ranking.now in
    let k = c.args.number in
    let from = c.component_of-component.ensures.is ∙ ap (λ z. component_of c.args.ranking.now z.from) c.case_of-case.ensures.is in
    let to = c.component_of.ensures.is ∙ ap (λ z. component_of c.args.ranking.now z.to) c.case_of-case.ensures.is in
    let rows = c.row_count-rows.ensures.is ∙ ap (λ z. length (sign_rows (signs_at c.args.ranking.now z.from) c.args.piece)) c.case_of-case.ensures.is in
    let guards = c.guard_count.ensures in
    leaving_case c.args.ranking.now c.args.number c.args.piece (c.row_count-rows.result + c.guard_count.result) c.in_ok-fall.fall c.requires.number
    (λ e. c.if-component_of-component.false (to ∙ e ∙ sym from)) (omega (arith, rows, guards)) c.in_ok-fall.ensures
