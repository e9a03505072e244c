use Rattle.std.specs.Prelude.{◌≡◌, ◌≢◌, ℕ, ◌<◌, ◌≤◌, List, slice_index_or}
use Rattle.tv_graph.specs.declared.marks.Mark.{Mark}
use Rattle.tv_graph.specs.declared.marks.Mark.TheVariants.{New, Open, Closed}

-- the mark of a node, which is New beyond the list
abbrev pub mark_at : List Mark → ℕ → Mark
mark_at marks u = slice_index_or marks u New

-- the first nodes were reached
abbrev pub AreReached : ℕ → List Mark → Type 0
AreReached nodes marks = (u : ℕ) → u < nodes → mark_at marks u ≢ New

-- 1 for a node that was not reached
abbrev pub unseen : Mark → ℕ
unseen New = 1
unseen (Open _) = 0
unseen (Closed _) = 0

-- the nodes at the place p and after it are put into the component c
pub record Closes (mark next : ℕ → Mark) (p c : ℕ) : Type 0 where
  pub take : (u i : ℕ) → mark u ≡ Open i → p ≤ i → next u ≡ Closed c
  pub keep : (u i : ℕ) → mark u ≡ Open i → i < p → next u ≡ Open i
  pub new : (u : ℕ) → mark u ≡ New → next u ≡ New
  pub old : (u d : ℕ) → mark u ≡ Closed d → next u ≡ Closed d

-- the number of the component, or 0
abbrev pub number_of : Mark → ℕ
number_of New = 0
number_of (Open _) = 0
number_of (Closed c) = c
