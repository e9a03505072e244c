use Rattle.std.specs.Prelude.{not}
use Rattle.tv_program.specs.declared.tree.Relation.{Relation}
use Rattle.tv_program.specs.declared.tree.Relation.TheVariants.{Less, LessEqual, Greater, GreaterEqual, Equal, NotEqual}
use Rattle.tv_formula.specs.declared.tree.Path.{Path}
use Rattle.tv_formula.specs.declared.tree.Path.TheVariants.{Every, Any}
use Rattle.tv_formula.specs.declared.tree.Shape.{Shape}
use Rattle.tv_formula.specs.declared.tree.Shape.TheVariants.{Until, Weak, Release, Strong}
use Rattle.tv_formula.specs.Properties.{Property, truth, compare, at, term, negated, all_of, some_of, next, fix, Properties, none, more}

-- the relation that holds where the given one does not
abbrev pub opposite : Relation → Relation
opposite Less = GreaterEqual
opposite LessEqual = Greater
opposite Greater = LessEqual
opposite GreaterEqual = Less
opposite Equal = NotEqual
opposite NotEqual = Equal

abbrev pub other_path : Path → Path
other_path Every = Any
other_path Any = Every

-- the shape of the negation
abbrev pub other_shape : Shape → Shape
other_shape Until = Release
other_shape Release = Until
other_shape Weak = Strong
other_shape Strong = Weak

abbrev mutual
  -- a normal property that excludes the given one
  pub negation : Property → Property
  negation (truth b) = truth (not b)
  negation (compare r a b) = compare (opposite r) a b
  negation (at l) = negated (at l)
  negation term = negated term
  negation (negated f) = normal f
  negation (all_of fs) = some_of (negations fs)
  negation (some_of fs) = all_of (negations fs)
  negation (next p f) = next (other_path p) (negation f)
  negation (fix p s f g) = fix (other_path p) (other_shape s) (negation f) (negation g)

  -- the property with `!` only over a location test and `term`
  pub normal : Property → Property
  normal (truth b) = truth b
  normal (compare r a b) = compare r a b
  normal (at l) = at l
  normal term = term
  normal (negated f) = negation f
  normal (all_of fs) = all_of (normals fs)
  normal (some_of fs) = some_of (normals fs)
  normal (next p f) = next p (normal f)
  normal (fix p s f g) = fix p s (normal f) (normal g)

  pub negations : Properties → Properties
  negations none = none
  negations (more f fs) = more (negation f) (negations fs)

  pub normals : Properties → Properties
  normals none = none
  normals (more f fs) = more (normal f) (normals fs)
