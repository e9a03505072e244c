use Rattle.std.proofs.Common.{subst}
use Rattle.tv_pre.specs.KnownStates.{IsNotRanked}
use Rattle.tv_pre.specs.Search.{system_of, AreRanks}
use Rattle.tv_pre.proofs.KnownAlongLemmas.{unranked_none, whatever_gap, without_gap}
use Rattle.tv_pre.proofs.along.by_ranks_anew.Goals as goal

pub returns-in_ok-by_rounds-in-Lacking-clause-known : goal.returns-in_ok-by_rounds-in-Lacking-clause-known
returns-in_ok-by_rounds-in-Lacking-clause-known c s h m tame =
    let about = system_of c.args.search.now in
    let sides = c.args.sides.now in
    let lacks = subst (AreRanks about c.args.search.now.setting.now.budget.now.pivots) c.in-Lacking.is c.in_ok-ranking.ensures in
    c.in_ok-by_rounds-in-Lacking.ensures.known s h m tame (whatever_gap (IsNotRanked about sides) c.in_ok-by_rounds-in-Lacking.field-0.gap (unranked_none about sides c.requires.path lacks))

pub returns-in-None-clause-known : goal.returns-in-None-clause-known
returns-in-None-clause-known c s h m tame =
    let none = without_gap (IsNotRanked (system_of c.args.search.now) c.args.sides.now) c.in_ok-along-in-Refused.along.gap c.in-None.is in
    c.in_ok-along-in-Refused.ensures.known s h m tame none
