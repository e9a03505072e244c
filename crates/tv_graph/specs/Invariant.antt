use Rattle.std.specs.Prelude.{◌≡◌, ℕ, ◌<◌, ◌≤◌, ◌⊎◌}
use Rattle.tv_graph.specs.declared.marks.Mark.{Mark}
use Rattle.tv_graph.specs.declared.marks.Mark.TheVariants.{New, Open, Closed}

-- the head of an arc that was followed is in a component, or at the boundary b or after it
pub data IsAhead (mark : ℕ → Mark) (b x : ℕ) : Type 0 where
  done : (d : ℕ) → mark x ≡ Closed d → IsAhead mark b x
  held : (j : ℕ) → mark x ≡ Open j → b ≤ j → IsAhead mark b x

-- The state of the search, over m arcs from f a to t a and a relation R of reach:
-- the mark of each node; the place before which the arcs of a node are not followed yet (cur); the node at each of the first
-- `size` places of the path (s); how many components are complete (count); the places that wait (W); those where a segment starts (B).
pub record IsSearchState (m : ℕ) (f t : ℕ → ℕ) (R : ℕ → ℕ → Type 0) (mark : ℕ → Mark) (cur s : ℕ → ℕ) (size count : ℕ) (W B : ℕ → Type 0) : Type 0 where
  -- the open nodes are those of the path, each at its place
  pub placed : (u i : ℕ) → mark u ≡ Open i → (i < size) × (s i ≡ u)
  pub seated : (i : ℕ) → i < size → mark (s i) ≡ Open i
  -- each node of the path reaches those after it, and within a segment those before it
  pub onward : (i j : ℕ) → i ≤ j → j < size → R (s i) (s j)
  pub back : (i j : ℕ) → i ≤ j → j < size → ((b : ℕ) → B b → i < b → b ≤ j → ⊥) → R (s j) (s i)
  -- a followed arc from an open node leads into a component, or not before its segment; no arc from a new node was followed
  pub kept : (a b i : ℕ) → a < m → mark (f a) ≡ Open i → cur (f a) ≤ a → B b → b ≤ i → IsAhead mark b (t a)
  pub fresh : (a : ℕ) → a < m → mark (f a) ≡ New → cur (f a) ≤ a → ⊥
  -- an arc from a complete component leads into one whose number is not greater
  pub falling : (a c : ℕ) → a < m → mark (f a) ≡ Closed c → (d : ℕ) × (mark (t a) ≡ Closed d) × (d ≤ c)
  -- the nodes of a complete component reach each other, and the numbers of these are those below the count
  pub joined : (u v c : ℕ) → mark u ≡ Closed c → mark v ≡ Closed c → R u v
  pub numbered : (u c : ℕ) → mark u ≡ Closed c → c < count
  pub used : (c : ℕ) → c < count → (u : ℕ) × (mark u ≡ Closed c)
  -- an open node with arcs left waits, and so does each start of a segment; the first segment starts where the path does
  pub waiting : (u i : ℕ) → mark u ≡ Open i → (cur u ≡ 0) ⊎ W i
  pub within : (i : ℕ) → W i → i < size
  pub boundaries : (b : ℕ) → B b → W b
  pub bottom : 0 < size → B 0

-- R goes along the arcs, one after another
pub record Follows (m : ℕ) (f t : ℕ → ℕ) (R : ℕ → ℕ → Type 0) : Type 0 where
  pub loop : (u : ℕ) → R u u
  pub chain : (u v w : ℕ) → R u v → R v w → R u w
  pub arc : (a : ℕ) → a < m → R (f a) (t a)
