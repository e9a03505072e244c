use Rattle.std.proofs.Common.{◌≡◌, ◌+◌, ◌-◌, length}
use Rattle.tv_refute.specs.Built.{built}
use Rattle.tv_refute.specs.Terms.{terms_of}
use Rattle.tv_refute.proofs.Composed.{AreComposing}
use Rattle.tv_refute.proofs.built.+numbers.Given as goal

abbrev pub invariant-compose_read-blocks-2 : goal.invariant-compose_read-blocks-2
invariant-compose_read-blocks-2 l = record {
  sums : AreComposing (built l.inner) (terms_of l.terms) l.column l.count l.totals l.first;
  size : length l.totals ≡ length l.fn.totals;
}

abbrev pub invariant-compose_read-places : goal.invariant-compose_read-places
invariant-compose_read-places l = record {
  sums : AreComposing (built l.inner) (terms_of l.terms) l.column l.count l.totals (l.first + l.i);
  size : length l.totals ≡ length l.fn.totals;
}

abbrev pub decreases-compose_read-blocks-2 : goal.decreases-compose_read-blocks-2
decreases-compose_read-blocks-2 l = l.places - l.first
