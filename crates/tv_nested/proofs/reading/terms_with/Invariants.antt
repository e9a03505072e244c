use Rattle.std.proofs.Common.{◌≡◌, length}
use Rattle.tv_nested.specs.ReadOff.{terms_until, terms_of}
use Rattle.tv_nested.proofs.reading.terms_with.Given as goal

abbrev pub invariant-locations : goal.invariant-locations
invariant-locations l = record {
  terms : l.terms.items ≡ terms_of l.solved l.number l.location;
  place : l.place ≡ length (terms_until l.solved l.location);
}
