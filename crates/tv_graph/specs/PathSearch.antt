use Rattle.std.specs.Prelude.{◌≡◌, ℕ, ◌+◌, ◌-◌, ◌*◌, ◌<◌, ◌≤◌, ◌++◌, ◌∷◌, [], List, length, take, slice_index, slice_set, sum_by}
use Rattle.tv_graph.specs.declared.Arc.{Arc}
use Rattle.tv_graph.specs.declared.marks.Mark.TheVariants.{New, Open}
use Rattle.tv_graph.specs.declared.search.PathSearch.{PathSearch}
use Rattle.tv_graph.specs.Graph.{Reaches}
use Rattle.tv_graph.specs.Arcs.{from_at, to_at}
use Rattle.tv_graph.specs.Marks.{mark_at, unseen, Closes}
use Rattle.tv_graph.specs.Stacks.{Has, IsRising}
use Rattle.tv_graph.specs.Invariant.{IsSearchState, IsAhead}

-- the state of the search holds of its vectors, which rise and are long enough, and its cursors are links to arcs
pub record IsValid (arcs : List Arc) (x : PathSearch) : Type 0 where
  pub state : IsSearchState (length arcs) (from_at arcs) (to_at arcs) (Reaches arcs) (mark_at x.marks.items) (λ u. slice_index x.cursors.items u) (λ i. slice_index x.path.items i) (length x.path.items) x.count (Has x.waiting.items) (Has x.boundaries.items)
  pub bounded : length x.marks.items ≤ 1024
  pub cursors : length x.cursors.items ≡ length x.marks.items
  pub rising_waiting : IsRising x.waiting.items
  pub rising_boundaries : IsRising x.boundaries.items
  pub hits : (u k : ℕ) → u < length x.marks.items → slice_index x.cursors.items u ≡ k + 1 → (k < length arcs) × (from_at arcs k ≡ u)
  pub room : (sum_by unseen x.marks.items + length x.path.items) + x.count ≤ length x.marks.items

-- a node that was reached stays so
abbrev pub KeepsReached : PathSearch → PathSearch → Type 0
KeepsReached x y = (u : ℕ) → mark_at y.marks.items u ≡ New → mark_at x.marks.items u ≡ New

-- y is x after a node was put at the end of the path
pub record EntersNode (x y : PathSearch) (node : ℕ) : Type 0 where
  pub marks : y.marks.items ≡ slice_set x.marks.items node (Open (length x.path.items))
  pub cursors : y.cursors.items ≡ x.cursors.items
  pub path : y.path.items ≡ x.path.items ++ node ∷ []
  pub waiting : y.waiting.items ≡ x.waiting.items ++ length x.path.items ∷ []
  pub boundaries : y.boundaries.items ≡ x.boundaries.items ++ length x.path.items ∷ []
  pub count : y.count ≡ x.count

-- y is x after the path from a place on became a component
pub record ClosesSegment (x y : PathSearch) (place : ℕ) : Type 0 where
  pub closing : Closes (mark_at x.marks.items) (mark_at y.marks.items) place x.count
  pub nodes : length y.marks.items ≡ length x.marks.items
  pub unseen_kept : sum_by unseen y.marks.items ≡ sum_by unseen x.marks.items
  pub cursors : y.cursors.items ≡ x.cursors.items
  pub path : y.path.items ≡ take place x.path.items
  pub waiting : y.waiting.items ≡ take (length x.waiting.items - 1) x.waiting.items
  pub boundaries : y.boundaries.items ≡ take (length x.boundaries.items - 1) x.boundaries.items
  pub count : y.count ≡ x.count + 1

-- y is x after the arc a of the node at a place was taken into account
pub record FollowsArc (arcs : List Arc) (place a : ℕ) (x y : PathSearch) : Type 0 where
  pub valid : IsValid arcs y
  pub cursors : y.cursors.items ≡ x.cursors.items
  pub nodes : length y.marks.items ≡ length x.marks.items
  pub here : mark_at y.marks.items (from_at arcs a) ≡ Open place
  pub waits : Has y.waiting.items place
  pub ahead : (b : ℕ) → Has y.boundaries.items b → b ≤ place → IsAhead (mark_at y.marks.items) b (to_at arcs a)
  pub grows : KeepsReached x y
  pub longer : length y.waiting.items ≤ length x.waiting.items + 1

-- the number itself, for a sum over a list of numbers
abbrev pub same : ℕ → ℕ
same n = n

-- what is left to do at most, which each step makes less: to follow an arc may add a place that waits
abbrev pub work : PathSearch → ℕ
work x = 2 * sum_by same x.cursors.items + length x.waiting.items

-- y is x after a step
pub record Steps (arcs : List Arc) (x y : PathSearch) : Type 0 where
  pub valid : IsValid arcs y
  pub nodes : length y.marks.items ≡ length x.marks.items
  pub grows : KeepsReached x y
  pub less : work y < work x
