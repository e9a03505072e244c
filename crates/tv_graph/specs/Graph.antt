use Rattle.std.specs.Prelude.{◌≡◌, ℕ, ◌<◌, ◌≤◌, ◌↔◌, List, length, slice_index}
use Rattle.std.specs.List.{All, Contains}
use Rattle.tv_graph.specs.declared.Arc.{Arc}

-- both ends of the arc are among the first nodes
abbrev pub IsBetween : ℕ → Arc → Type 0
IsBetween nodes arc = (arc.from < nodes) × (arc.to < nodes)

-- the second node is reached from the first along arcs, maybe along none
pub data Reaches (arcs : List Arc) : ℕ → ℕ → Type 0 where
  here : (u : ℕ) → Reaches arcs u u
  along : (arc : Arc) (v : ℕ) → Contains arcs arc → Reaches arcs arc.to v → Reaches arcs arc.from v

-- each of the two nodes reaches the other
abbrev pub AreStronglyConnected : List Arc → ℕ → ℕ → Type 0
AreStronglyConnected arcs u v = Reaches arcs u v × Reaches arcs v u

-- with each number all lesser ones are there
abbrev pub HasNoGap : List ℕ → Type 0
HasNoGap numbers = (number lesser : ℕ) → Contains numbers number → lesser ≤ number → Contains numbers lesser

-- the numbers are those of the strongly connected components, in reverse topological order
pub record IsNumbering (nodes : ℕ) (arcs : List Arc) (numbers : List ℕ) : Type 0 where
  pub one_each : length numbers ≡ nodes
  pub same_number : (u v : ℕ) → u < nodes → v < nodes → (slice_index numbers u ≡ slice_index numbers v) ↔ AreStronglyConnected arcs u v
  pub never_greater : All (λ arc. slice_index numbers arc.to ≤ slice_index numbers arc.from) arcs
  pub no_gap : HasNoGap numbers
  pub below : All (λ number. number < nodes) numbers
