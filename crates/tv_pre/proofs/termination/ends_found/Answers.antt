use Rattle.std.proofs.Common.{rules}
use Rattle.tv_pre.specs.Search.{system_of}
use Rattle.tv_pre.specs.Unserved.{IsUnranked}
use Rattle.tv_pre.proofs.KnownAlongLemmas.{whatever_gap}
use Rattle.tv_pre.proofs.termination.ends_found.Goals as goal

pub returns-in_ok-ends_unranked-in-Some-Lacking-clause-known : goal.returns-in_ok-ends_unranked-in-Some-Lacking-clause-known
returns-in_ok-ends_unranked-in-Some-Lacking-clause-known c =
    let about = system_of c.args.search.now in
    let lacks : IsUnranked about = search rules in
    c.in_ok-ends_unranked-in-Some-Lacking.ensures.known (whatever_gap (IsUnranked about) c.in_ok-ends_unranked-in-Some-Lacking.field-0.gap lacks)
