use Rattle.std.proofs.Common.{subst}
use Rattle.tv_pre.specs.Search.{system_of, AreRanks}
use Rattle.tv_pre.specs.Unserved.{IsUnranked}
use Rattle.tv_pre.proofs.KnownAlongLemmas.{whatever_gap, without_gap}
use Rattle.tv_pre.proofs.termination.never_anew.Goals as goal

pub returns-in_ok-never_unranked-in-Lacking-clause-known : goal.returns-in_ok-never_unranked-in-Lacking-clause-known
returns-in_ok-never_unranked-in-Lacking-clause-known c =
    let about = system_of c.args.search.now in
    let lacks = subst (AreRanks about c.args.search.now.setting.now.budget.now.pivots) c.in-Lacking.is c.in_ok-ranking.ensures in
    c.in_ok-never_unranked-in-Lacking.ensures.known (whatever_gap (IsUnranked about) c.in_ok-never_unranked-in-Lacking.field-0.gap lacks)

pub returns-in-None-clause-known : goal.returns-in-None-clause-known
returns-in-None-clause-known c =
    let none = without_gap (IsUnranked (system_of c.args.search.now)) c.in_ok-found-in-Refused.found.gap c.in-None.is in
    c.in_ok-found-in-Refused.ensures.known none
