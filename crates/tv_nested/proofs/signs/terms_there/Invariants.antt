use Rattle.std.proofs.Common.{◌≡◌, take}
use Rattle.tv_nested.specs.Reading.{tuple_of}
use Rattle.tv_nested.specs.Signs.{terms_there}
use Rattle.tv_nested.proofs.signs.terms_there.Given as goal

abbrev pub invariant-terms : goal.invariant-terms
invariant-terms l = l.all.items ≡ terms_there l.variables (tuple_of (take l.term-index l.terms)) l.location
