-- What is owed on entering a piece, as it is lent row by row.
use Rattle.std.specs.Prelude.{ℕ, List, [], ◌∷◌, ◌++◌, map, pos, Bool, Option, None, Some}
use Rattle.std.specs.Borrow.{Bor}
use Rattle.tv_linear.specs.Linear.{Linear}
use Rattle.tv_linear.specs.Known.{Known, given, less}
use Rattle.tv_linear.specs.Views.{rows_seen}
use Rattle.tv_refute.specs.Built.{change_of}
use Rattle.tv_cert.specs.declared.node.Marked.{Marked}
use Rattle.tv_cert.specs.Entering.{entered_listed, owed_listed}
use Rattle.tv_cert.specs.Pieces.{ranks_of}
use Rattle.tv_cert.specs.Targets.{owed_into, no_fall}
use Rattle.tv_finitely.specs.declared.entering.Entrance.{Entrance}
use Rattle.tv_finitely.specs.declared.kept.Kept.{Kept}
use Rattle.tv_finitely.specs.declared.owed.Owed.{Owed}
use Rattle.tv_finitely.specs.declared.owed.Owed.TheVariants as owed
use Rattle.tv_finitely.specs.declared.owed.OwedRows.{OwedRows}
use Rattle.tv_finitely.specs.declared.owed.OwedRows.TheVariants as rows
use Rattle.tv_finitely.specs.Kept.{visit_fall}

-- the rows that show that no rank grows, place by place as far as both have one
abbrev pub kept_list : (Linear → Known) → List Linear → List Linear → List Known
kept_list change [] new = []
kept_list change (r ∷ old) [] = []
kept_list change (r ∷ old) (q ∷ new) = less (change q) (given r) (pos 0) ∷ kept_list change old new

-- the rows of a piece, which are changed, and then those of its ranks
abbrev pub kept_listed : (Linear → Known) → Kept → List Known
kept_listed change k = map change (rows_seen k.rows) ++ kept_list change (rows_seen k.old) (rows_seen k.new)

abbrev pub listed : (Linear → Known) → Owed → List Known
listed change (owed.Falling entered) = entered_listed change entered
listed change (owed.Keeping kept) = kept_listed change kept

abbrev pub rows_listed : OwedRows → List Known
rows_listed (rows.Falling falling) = owed_listed falling
rows_listed (rows.Keeping kept change) = kept_listed (change_of change.now) kept

-- what is owed of the ranks of a piece, or nothing where none is left
abbrev pub entrance_fall : Option (Bor Marked) → Bool → (Linear → Known) → Marked → ℕ → Option (List Known)
entrance_fall None enters change = no_fall
entrance_fall (Some p) enters change = visit_fall enters change (ranks_of p.now)

abbrev pub entrance_owes : (Linear → Known) → Entrance → ℕ → ℕ → Option (List Known)
entrance_owes change e = owed_into e.into.now e.location change (entrance_fall e.left e.enters change)
