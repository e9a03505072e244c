use Rattle.std.proofs.Common.{◌∙◌, ap}
use Rattle.tv_cert.specs.MarkedRows.{marked}
use Rattle.tv_cert.specs.declared.node.Mark.TheVariants.{Go}
use Rattle.tv_rank.specs.Ways.{rows_at}
use Rattle.tv_finitely.proofs.PieceLemmas.{all_ranks_are}
use Rattle.tv_finitely.proofs.pieces.piece_at.Goals as goal

pub returns : goal.returns
returns c =
    let r = c.args.ranking.now in
    let l = c.args.location in
    let ranks = c.deref-2.ensures.value ∙ all_ranks_are r l c.variables-variables.result c.component_of-component.result c.rounds-rounds.result.now c.in_ok-ranks.ranks.items c.variables-variables.ensures.same c.component_of-component.ensures.is c.rounds-rounds.ensures.is c.in_ok-ranks.ensures in
    let rows = c.known_at-rows.ensures ∙ ap (λ z. rows_at z l) c.deref.ensures.value in
    c.in_ok-piece.ensures ∙ (λ i. marked l (c.variables-variables.ensures.same i) Go (rows i) (ranks i))
