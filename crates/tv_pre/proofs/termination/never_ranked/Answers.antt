use Rattle.std.proofs.Common.{refl}
use Rattle.tv_pre.specs.Search.{system_of}
use Rattle.tv_pre.proofs.ExactLemmas.{ranked_end}
use Rattle.tv_pre.proofs.KnownTermination.{none_never_known}
use Rattle.tv_pre.proofs.TerminationFound.{none_never_found}
use Rattle.tv_pre.proofs.termination.never_ranked.Goals as goal

pub returns-clause-found : goal.returns-clause-found
returns-clause-found c =
    let about = system_of c.args.search.now in
    none_never_found about c.args.search.now.last _ c.in_ok-part.ensures.nowhere c.in_ok-part.ensures.part refl tt (λ s is. ranked_end about _ c.requires.ranking.ranked.ends s is)

pub returns-clause-known : goal.returns-clause-known
returns-clause-known c =
    let about = system_of c.args.search.now in
    none_never_known about c.args.search.now.last c.args.search.now.alone c.in_ok-part.part.region c.variables-variables.ensures.limits.cases c.in_ok-part.ensures.nowhere
    (λ s is. ranked_end about _ c.requires.ranking.ranked.ends s is)
