use Rattle.std.proofs.Common.{take}
use Rattle.std.specs.List.{AllZip}
use Rattle.tv_copy.specs.SameProofs.{SameCover}
use Rattle.tv_copy.proofs.covers.copy_covers.Given as goal

abbrev pub invariant-covers : goal.invariant-covers
invariant-covers l = AllZip SameCover (take l.cover-index l.covers) l.copies.items
