use Rattle.tv_cases.specs.Systems.{cases_of}
use Rattle.tv_pre.specs.Atoms.{AreAllAtoms}
use Rattle.tv_pre.proofs.atoms.all_atoms.Given as goal

abbrev pub invariant-locations : goal.invariant-locations
invariant-locations l = AreAllAtoms (cases_of l.about) l.test l.location l.made.pieces.items l.made.proofs.items
