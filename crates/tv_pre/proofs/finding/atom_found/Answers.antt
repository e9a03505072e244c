use Rattle.std.proofs.Common.{refl}
use Rattle.tv_pre.specs.Search.{system_of}
use Rattle.tv_pre.proofs.FoundLemmas.{atom_is_found}
use Rattle.tv_pre.proofs.KnownFormulas.{atom_known}
use Rattle.tv_pre.proofs.finding.atom_found.Goals as goal

pub returns-clause-found : goal.returns-clause-found
returns-clause-found c = atom_is_found (system_of c.args.search.now) c.args.search.now.last c.args.test.now _ c.in_ok-part.ensures.region (λ f h. c.in_ok-part.ensures.part f h) refl tt

pub returns-clause-known : goal.returns-clause-known
returns-clause-known c =
    let part = c.in_ok-part.part in
    record {
      states = atom_known (system_of c.args.search.now) c.args.search.now.last c.args.search.now.alone c.args.test.now part.region part.node c.in_ok-part.ensures.region (λ f h. c.in_ok-part.ensures.part f h);
    }
