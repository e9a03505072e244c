use Rattle.std.proofs.Common.{◌∙◌}
use Rattle.tv_finitely.proofs.VisitLemmas.{visits_shaped, visits_met}
use Rattle.tv_finitely.proofs.under.visits_by.Goals as goal

pub returns-clause-visits : goal.returns-clause-visits
returns-clause-visits c =
    let r = c.args.ranking.now in
    let same = c.in_ok-pieces.ensures ∙ c.in_ok-list.ensures in
    record {
      shape = visits_shaped r c.requires.ranked c.in-Ok.proofs.items c.args.root c.in-Ok.ensures.shown c.requires.root c.in_ok-pieces.pieces same;
      met = visits_met r c.requires.ranked c.in-Ok.proofs.items c.args.root c.in-Ok.ensures.shown c.requires.root c.in_ok-pieces.pieces same;
    }
