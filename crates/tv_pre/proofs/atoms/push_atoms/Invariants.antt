use Rattle.std.proofs.Common.{map, take}
use Rattle.tv_cases.specs.Systems.{cases_of}
use Rattle.tv_pre.specs.Atoms.{AreAtoms}
use Rattle.tv_pre.proofs.atoms.push_atoms.Given as goal

abbrev pub invariant-lists : goal.invariant-lists
invariant-lists l =
    let rows = map (λ v. v.items) l.lists in
    AreAtoms (cases_of l.about) l.location rows (take l.place rows) l.fn.made.pieces.items l.fn.made.proofs.items l.made.pieces.items l.made.proofs.items
