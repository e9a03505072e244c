use Rattle.std.specs.Prelude.{ℕ, ◌+◌, max, Bool, true, ◌&&◌, nat_lt, nat_le, IsTrue}
use Rattle.tv_program.specs.Trees.{Expression}
use Rattle.tv_program.specs.Limits.{expression_fits, expression_depth}
use Rattle.tv_formula.specs.Properties.{Property, truth, compare, at, term, negated, all_of, some_of, next, fix, Properties, none, more}

-- whether an expression of a formula fits: without draws, linear, and with at most 400 nodes on a path
abbrev pub part_fits : ℕ → Expression → Bool
part_fits variables e = expression_fits variables 0 e && nat_le (expression_depth e) 400

abbrev mutual
  -- whether each variable and location of the property is in range, and its expressions fit
  pub property_fits : ℕ → ℕ → Property → Bool
  property_fits variables locations (truth b) = true
  property_fits variables locations (compare r a b) = part_fits variables a && part_fits variables b
  property_fits variables locations (at l) = nat_lt l locations
  property_fits variables locations term = true
  property_fits variables locations (negated f) = property_fits variables locations f
  property_fits variables locations (all_of fs) = properties_fit variables locations fs
  property_fits variables locations (some_of fs) = properties_fit variables locations fs
  property_fits variables locations (next p f) = property_fits variables locations f
  property_fits variables locations (fix p s f g) = property_fits variables locations f && property_fits variables locations g

  pub properties_fit : ℕ → ℕ → Properties → Bool
  properties_fit variables locations none = true
  properties_fit variables locations (more f fs) = property_fits variables locations f && properties_fit variables locations fs

abbrev mutual
  -- the greatest number of conjunctions, disjunctions, next and fixpoints on a path
  pub operators : Property → ℕ
  operators (truth b) = 0
  operators (compare r a b) = 0
  operators (at l) = 0
  operators term = 0
  operators (negated f) = operators f
  operators (all_of fs) = 1 + most_operators fs
  operators (some_of fs) = 1 + most_operators fs
  operators (next p f) = 1 + operators f
  operators (fix p s f g) = 1 + max (operators f) (operators g)

  pub most_operators : Properties → ℕ
  most_operators none = 0
  most_operators (more f fs) = max (operators f) (most_operators fs)

abbrev mutual
  -- the greatest number of negations on a path
  pub nots : Property → ℕ
  nots (truth b) = 0
  nots (compare r a b) = 0
  nots (at l) = 0
  nots term = 0
  nots (negated f) = 1 + nots f
  nots (all_of fs) = most_nots fs
  nots (some_of fs) = most_nots fs
  nots (next p f) = nots f
  nots (fix p s f g) = max (nots f) (nots g)

  pub most_nots : Properties → ℕ
  most_nots none = 0
  most_nots (more f fs) = max (nots f) (most_nots fs)

-- the limits of a formula over `variables` variables and `locations` locations
pub record IsFormula (variables locations : ℕ) (f : Property) : Type 0 where
  pub fits : IsTrue (property_fits variables locations f)
  pub few_operators : IsTrue (nat_le (operators f) 200)
  pub few_nots : IsTrue (nat_le (nots f) 64)
