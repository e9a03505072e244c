use Rattle.std.proofs.Common.{◌≡◌, length}
use Rattle.tv_invariant.specs.Pieces.{AreInPlace}
use Rattle.tv_invariant.proofs.pieces.pieces_below.Given as goal

abbrev pub invariant-locations : goal.invariant-locations
invariant-locations l = record {
  counted : length l.pieces.items ≡ l.location;
  in_place : AreInPlace l.variables l.list l.pieces.items;
}
