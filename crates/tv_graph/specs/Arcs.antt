use Rattle.std.specs.Prelude.{◌≡◌, ◌≢◌, ℕ, ◌+◌, ◌<◌, ◌≤◌, List, length, slice_index, slice_index_or}
use Rattle.tv_graph.specs.declared.Arc.{Arc}

abbrev pub no_arc : Arc
no_arc = record { from = 0; to = 0 }

-- where the arc at a place starts, and where it leads
abbrev pub from_at : List Arc → ℕ → ℕ
from_at arcs a = (slice_index_or arcs a no_arc).from

abbrev pub to_at : List Arc → ℕ → ℕ
to_at arcs a = (slice_index_or arcs a no_arc).to

-- both ends of the arc at each place are among the first nodes
pub record InRange (nodes : ℕ) (arcs : List Arc) : Type 0 where
  pub from_in : (a : ℕ) → a < length arcs → from_at arcs a < nodes
  pub to_in : (a : ℕ) → a < length arcs → to_at arcs a < nodes

-- the link is just past the last arc from u among the first n, or 0 where none of them starts there
pub record IsPastLast (arcs : List Arc) (u n link : ℕ) : Type 0 where
  pub past : (k : ℕ) → link ≤ k → k < n → from_at arcs k ≢ u
  pub hits : (k : ℕ) → link ≡ k + 1 → (k < n) × (from_at arcs k ≡ u)

-- each of the first nodes has the link to the last arc that starts there
pub record HasLatest (nodes : ℕ) (arcs : List Arc) (latest : List ℕ) : Type 0 where
  pub many : length latest ≡ nodes
  pub links : (u : ℕ) → u < nodes → IsPastLast arcs u (length arcs) (slice_index latest u)

-- each arc has the link to the last arc before it with the same start
pub record HasEarlier (arcs : List Arc) (earlier : List ℕ) : Type 0 where
  pub many : length earlier ≡ length arcs
  pub links : (a : ℕ) → a < length arcs → IsPastLast arcs (from_at arcs a) a (slice_index earlier a)
