-- Where the normal form of a property is that all runs end, its negation is that not all do.
use Rattle.std.proofs.Common.{◌≡◌, refl, sym, subst}
use Rattle.tv_formula.specs.Properties.{Property, truth, compare, at, term, negated, all_of, some_of, next, fix}
use Rattle.tv_formula.specs.Normal.{normal, negation}

abbrev IsTerm : Property → Type 0
IsTerm term = Unit {0}
IsTerm f = ⊥

is_term : (f : Property) → f ≡ term → IsTerm f
is_term f e = subst IsTerm (sym e) tt

mutual
  pub ends_negated : (f : Property) → normal f ≡ term → negation f ≡ negated term
  ends_negated (truth b) e = absurd (is_term (truth b) e)
  ends_negated (compare r a b) e = absurd (is_term (compare r a b) e)
  ends_negated (at l) e = absurd (is_term (at l) e)
  ends_negated term e = refl
  ends_negated (negated f) e = negated_ends f e
  ends_negated (all_of fs) e = absurd (is_term (normal (all_of fs)) e)
  ends_negated (some_of fs) e = absurd (is_term (normal (some_of fs)) e)
  ends_negated (next p f) e = absurd (is_term (normal (next p f)) e)
  ends_negated (fix p s f g) e = absurd (is_term (normal (fix p s f g)) e)

  negated_ends : (f : Property) → negation f ≡ term → normal f ≡ negated term
  negated_ends (truth b) e = absurd (is_term (negation (truth b)) e)
  negated_ends (compare r a b) e = absurd (is_term (negation (compare r a b)) e)
  negated_ends (at l) e = absurd (is_term (negation (at l)) e)
  negated_ends term e = absurd (is_term (negation term) e)
  negated_ends (negated f) e = ends_negated f e
  negated_ends (all_of fs) e = absurd (is_term (negation (all_of fs)) e)
  negated_ends (some_of fs) e = absurd (is_term (negation (some_of fs)) e)
  negated_ends (next p f) e = absurd (is_term (negation (next p f)) e)
  negated_ends (fix p s f g) e = absurd (is_term (negation (fix p s f g)) e)
