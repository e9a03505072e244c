use Rattle.std.specs.Prelude.{ℕ, zero, suc, List, [], ◌∷◌, ◌++◌, map, slice_get, Option, None, Some, if◌then◌else◌}
use Rattle.std.specs.Option.{option_map}
use Rattle.tv_linear.specs.Linear.{Linear}
use Rattle.tv_linear.specs.Known.{Known, given, as_given}
use Rattle.tv_linear.specs.Falls.{fall_rows}
use Rattle.tv_cert.specs.declared.node.Marked.{Marked}
use Rattle.tv_cert.specs.Pieces.{rows_of, ranks_of, goes, pieces_at}

-- The rows that are owed on entering target k by fall j, or nothing where there is no such target or fall.
-- The rows of a target are those of its piece after a change, and then those of the fall.
abbrev pub target_rows : (Linear → Known) → (Marked → ℕ → Option (List Known)) → Option Marked → ℕ → Option (List Known)
target_rows change fall None j = None
target_rows change fall (Some q) j = option_map (λ falls. map change (rows_of q) ++ falls) (fall q j)

-- the targets are the pieces at a location, in order
abbrev pub owed_into : List Marked → ℕ → (Linear → Known) → (Marked → ℕ → Option (List Known)) → ℕ → ℕ → Option (List Known)
owed_into ps l change fall k j = target_rows change fall (slice_get (pieces_at ps l) k) j

-- the targets are lists of rows, and each row is changed
abbrev pub changed_lists : (Linear → Known) → List (List Linear) → ℕ → ℕ → Option (List Known)
changed_lists change targets k zero = option_map (map change) (slice_get targets k)
changed_lists change targets k (suc j) = None

-- one target without rows
abbrev pub owed_nothing : ℕ → ℕ → Option (List Known)
owed_nothing = changed_lists given ([] ∷ [])

-- no fall is owed: j is 0
abbrev pub no_fall : Marked → ℕ → Option (List Known)
no_fall q zero = Some []
no_fall q (suc j) = None

-- the fall that is owed from the ranks of a piece on entering q: fall j of 1 to m where q goes on, and none where q is done
abbrev pub fall_from : (Linear → Known) → List Linear → Marked → ℕ → Option (List Known)
fall_from change ranks q j = (if goes q then fall_rows (as_given ranks) (map change (ranks_of q)) j else no_fall q j)
