use Rattle.std.proofs.Common.{map}
use Rattle.tv_cases.specs.Systems.{cases_of}
use Rattle.tv_pre.proofs.AtomLemmas.{one_location}
use Rattle.tv_pre.proofs.atoms.all_atoms.Goals as goal

pub locations-preserved : goal.locations-preserved
locations-preserved c =
    one_location (cases_of c.args.about.now) c.args.test.now c.locations.location (map (λ v. v.items) c.lists_of-lists.result.now) c.locations.made.pieces.items c.push_atoms.new.made.pieces.items c.locations.made.proofs.items c.push_atoms.new.made.proofs.items
    c.lists_of-lists.ensures c.locations.invariant c.in_ok-push_atoms.ensures
