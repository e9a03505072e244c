-- Properties whose conjunctions and disjunctions are of something.
use Rattle.tv_formula.specs.Properties.{Property, truth, compare, at, term, negated, all_of, some_of, next, fix, Properties, none, more}

abbrev mutual
  -- each conjunction and each disjunction of the property has a part
  pub HasParts : Property → Type 0
  HasParts (truth b) = Unit {0}
  HasParts (compare r a b) = Unit {0}
  HasParts (at l) = Unit {0}
  HasParts term = Unit {0}
  HasParts (negated f) = HasParts f
  HasParts (all_of fs) = AreSomeParts fs
  HasParts (some_of fs) = AreSomeParts fs
  HasParts (next path f) = HasParts f
  HasParts (fix path shape f g) = HasParts f × HasParts g

  -- there is one, and so it is with each
  pub AreSomeParts : Properties → Type 0
  AreSomeParts none = ⊥
  AreSomeParts (more f fs) = HasParts f × AllHaveParts fs

  pub AllHaveParts : Properties → Type 0
  AllHaveParts none = Unit {0}
  AllHaveParts (more f fs) = HasParts f × AllHaveParts fs
