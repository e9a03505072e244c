-- Forms of properties.
use Rattle.std.specs.Prelude.{ℕ, Bool, true, false, ◌&&◌}
use Rattle.tv_formula.specs.declared.tree.Path.TheVariants.{Every}
use Rattle.tv_formula.specs.declared.tree.Shape.TheVariants.{Weak}
use Rattle.tv_formula.specs.Properties.{Property, truth, compare, at, term, negated, all_of, some_of, next, fix, Properties, none, more}

-- no state at the location is ever reached
abbrev pub never_at : ℕ → Property
never_at l = fix Every Weak (negated (at l)) (truth false)

-- a location test or `term`
abbrev pub is_mark : Property → Bool
is_mark (at l) = true
is_mark term = true
is_mark f = false

abbrev mutual
  -- `!` stands over a location test and over `term` alone
  pub is_normal : Property → Bool
  is_normal (truth b) = true
  is_normal (compare r a b) = true
  is_normal (at l) = true
  is_normal term = true
  is_normal (negated f) = is_mark f
  is_normal (all_of fs) = are_normal fs
  is_normal (some_of fs) = are_normal fs
  is_normal (next p f) = is_normal f
  is_normal (fix p s f g) = is_normal f && is_normal g

  pub are_normal : Properties → Bool
  are_normal none = true
  are_normal (more f fs) = is_normal f && are_normal fs

abbrev mutual
  -- the property speaks of one state: it has neither a next nor a fixpoint nor `term`
  pub is_local : Property → Bool
  is_local (truth b) = true
  is_local (compare r a b) = true
  is_local (at l) = true
  is_local term = false
  is_local (negated f) = is_local f
  is_local (all_of fs) = are_local fs
  is_local (some_of fs) = are_local fs
  is_local (next p f) = false
  is_local (fix p s f g) = false

  pub are_local : Properties → Bool
  are_local none = true
  are_local (more f fs) = is_local f && are_local fs
