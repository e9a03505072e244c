-- A program with two copies of each edge: one into the states at which a property of one state holds, one into the others.
use Rattle.std.specs.Prelude.{ℕ, ◌*◌, List, [], ◌∷◌, ◌++◌, length, false, ◌==◌}
use Rattle.std.specs.List.{flat_map}
use Rattle.tv_program.specs.Trees as trees
use Rattle.tv_program.specs.Trees.{Condition, Conditions, no_test, test, assume, Transition}
use Rattle.tv_program.specs.Systems.{System}
use Rattle.tv_formula.specs.Properties as properties
use Rattle.tv_formula.specs.Properties.{Property, Properties}

abbrev mutual
  -- a property of one state as a condition at a location, where the tests of locations are true or false
  pub condition_at : ℕ → Property → Condition
  condition_at l (properties.truth b) = trees.truth b
  condition_at l (properties.compare r a b) = trees.compare r a b
  condition_at l (properties.at m) = trees.truth (l == m)
  condition_at l properties.term = trees.truth false
  condition_at l (properties.negated f) = trees.negated (condition_at l f)
  condition_at l (properties.all_of fs) = trees.all_of (conditions_at l fs)
  condition_at l (properties.some_of fs) = trees.some_of (conditions_at l fs)
  condition_at l (properties.next path f) = trees.truth false
  condition_at l (properties.fix path shape f g) = trees.truth false

  pub conditions_at : ℕ → Properties → Conditions
  conditions_at l properties.none = no_test
  conditions_at l (properties.more f fs) = test (condition_at l f) (conditions_at l fs)

-- the edge, with one assumption more after its commands
abbrev pub assuming : Condition → Transition → Transition
assuming c e = record { from = e.from; to = e.to; draws = e.draws; instructions = e.instructions ++ assume c ∷ [] }

-- the two copies of an edge: the first is taken where the property holds after it, the second where it does not
abbrev pub copies : Property → Transition → List Transition
copies f e = assuming (condition_at e.to f) e ∷ assuming (trees.negated (condition_at e.to f)) e ∷ []

-- the copies of each edge side by side, in order
abbrev pub doubled : Property → System → System
doubled f p = record { variables = p.variables; locations = p.locations; start = p.start; edges = flat_map (copies f) p.edges }

-- how many edges that makes
abbrev pub doubled_count : System → ℕ
doubled_count p = 2 * length p.edges
