use Rattle.std.proofs.Common.{◌≡◌, [], All, sym, subst}
use Rattle.tv_cases.specs.Systems.{cases_of}
use Rattle.tv_cert.specs.Pieces.{rows_of}
use Rattle.tv_linear.specs.declared.region.Region.{Region}
use Rattle.tv_pre.specs.Pieces.{AreMarked}
use Rattle.tv_pre.proofs.RankedEndLemmas.{ranked_bare, ranked_everywhere, ranked_part}
use Rattle.tv_pre.proofs.ranked_end.ends_ranked.Goals as goal

pub bare_pieces-requires-clause-bare : goal.bare_pieces-requires-clause-bare
bare_pieces-requires-clause-bare c =
    subst (All (λ p. rows_of p ≡ [])) (sym c.list.ensures) (ranked_bare (cases_of c.args.about.now) c.args.node c.requires.ranked)

pub returns-clause-region : goal.returns-clause-region
returns-clause-region c =
    let region : Region = record { variables = c.variables.result; locations = c.locations.result; pieces = c.in_ok-pieces.pieces } in
    ranked_everywhere (cases_of c.args.about.now) c.args.node region c.requires.ranked
    (record { variables = c.variables.ensures.same; locations = c.locations.ensures.same; pieces = c.in_ok-pieces.ensures.over })
    (subst (λ ps. AreMarked ps region.pieces.items) c.list.ensures c.in_ok-pieces.ensures.marked)

pub returns-clause-part : goal.returns-clause-part
returns-clause-part c =
    let region : Region = record { variables = c.variables.result; locations = c.locations.result; pieces = c.in_ok-pieces.pieces } in
    ranked_part (cases_of c.args.about.now) c.args.node region c.requires.ranked (subst (λ ps. AreMarked ps region.pieces.items) c.list.ensures c.in_ok-pieces.ensures.marked)
