use Rattle.std.proofs.Common.{◌≡◌, ◌∙◌, get_or, ap, sym}
use Rattle.tv_rank.specs.Ways.{case_at}
use Rattle.tv_finitely.specs.Ranked.{system_of}
use Rattle.tv_finitely.proofs.ShownLemmas.{leaving_case}
use Rattle.tv_finitely.proofs.shown.case_shown.Goals as goal

pub returns : goal.returns
returns c =
    let r = c.args.ranking.now in
    let k = c.args.number in
    let numbers = r.numbers.now in
    let from = c.component_of-component.ensures.is ∙ ap (λ z. get_or numbers z.from 0) c.case_of-case.ensures.is in
    let to = c.component_of.ensures.is ∙ ap (λ z. get_or numbers z.to 0) c.case_of-case.ensures.is in
    let other : get_or numbers (case_at (system_of r).cases k).to 0 ≡ get_or numbers (case_at (system_of r).cases k).from 0 → ⊥ = λ e. c.if-component_of-component.false (to ∙ e ∙ sym from) in
    leaving_case r k c.met_count.result c.in_ok-fall.fall c.requires.number other c.met_count.ensures c.in_ok-fall.ensures
