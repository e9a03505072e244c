use Rattle.std.proofs.Common.{refl}
use Rattle.tv_pre.specs.Search.{system_of}
use Rattle.tv_pre.proofs.KnownTermination.{all_end_known}
use Rattle.tv_pre.proofs.TerminationFound.{all_end_found}
use Rattle.tv_pre.proofs.termination.all_ended.Goals as goal

pub returns-clause-found : goal.returns-clause-found
returns-clause-found c = all_end_found (system_of c.args.search.now) c.args.search.now.last _ c.in_ok-part.ensures.region c.in_ok-part.ensures.part refl tt

pub returns-clause-known : goal.returns-clause-known
returns-clause-known c =
    all_end_known (system_of c.args.search.now) c.args.search.now.last c.args.search.now.alone c.in_ok-part.part.region c.in_ok-part.ensures.region c.requires.lexicographic
