-- The lines of an unknown answer.
use Rattle.std.specs.Prelude.{ℕ, ℤ, List, [], ◌∷◌, ◌++◌, length, map, codes, decimal}
use Rattle.std.specs.Fmt.{signed_decimal}
use Rattle.tv_program.specs.Words.{Word}
use Rattle.tv_top.specs.declared.system_fault.SystemFault.{SystemFault}
use Rattle.tv_top.specs.declared.system_fault.SystemFault.TheVariants as kept
use Rattle.tv_rank.specs.declared.name.Name.{Name}
use Rattle.tv_rank.specs.declared.name.Name.TheVariants as systems
use Rattle.tv_top.specs.declared.named_system.NamedSystem.{NamedSystem}
use Rattle.tv_top.specs.declared.named_system.NamedSystem.TheVariants.{Searched, Nested, Visited}
use Rattle.tv_top.specs.declared.cause.Cause.{Cause}
use Rattle.tv_top.specs.declared.cause.Cause.TheVariants.{Unsolved, Spent, Composed, Unranked, Weak, TooManyPaths, TooManyPieces, Drawn, Unsettled, WideComparison}

-- the words that name a linear system of the search for ranks, or of a question of integer points
abbrev pub searched_words : Name → List ℕ
searched_words (systems.Empty k) = codes "empty " ++ decimal k
searched_words (systems.Rank component round falling) = codes "rank " ++ (decimal component ++ (codes " " ++ (decimal round ++ (codes " " ++ decimal falling))))
searched_words (systems.Rows rows) = codes "rows " ++ decimal (length rows.items)
searched_words (systems.Later set falling) = codes "later " ++ decimal (length set.items)

-- the words that name a linear system
abbrev pub system_words : NamedSystem → List ℕ
system_words (Searched system) = searched_words system
system_words (Nested component depth) = codes "nest " ++ (decimal component ++ (codes " " ++ decimal depth))
system_words (Visited system) = codes "visits " ++ searched_words system

-- the line of the cause for which a linear system was not settled
abbrev pub unsolved_line : SystemFault → List ℕ
unsolved_line (kept.Width basis row column) = codes "Unknown width" ++ 10 ∷ []
unsolved_line (kept.Scale basis) = codes "Unknown width" ++ 10 ∷ []
unsolved_line (kept.Pivots bases) = codes "Unknown pivots" ++ 10 ∷ []
unsolved_line (kept.Size rows columns) = codes "Unknown size" ++ 10 ∷ []

-- the line of a system with one number
abbrev pub numbered_detail : List ℕ → List ℕ → ℕ → List ℕ
numbered_detail system what number = codes "system " ++ (system ++ (codes " " ++ (what ++ (codes " " ++ (decimal number ++ 10 ∷ [])))))

-- the line of a system with a row, or rows, and a column, or columns
abbrev pub two_numbers_detail : List ℕ → List ℕ → ℕ → ℕ → List ℕ
two_numbers_detail system plural rows columns =
    codes "system " ++ (system ++ (codes " row" ++ (plural ++ (codes " " ++ (decimal rows ++ (codes " column" ++ (plural ++ (codes " " ++ (decimal columns ++ 10 ∷ [])))))))))

-- the line that says which system it is, and where or how it was not settled
abbrev pub system_line : NamedSystem → SystemFault → List ℕ
system_line system (kept.Width basis row column) = two_numbers_detail (system_words system) [] row column
system_line system (kept.Scale basis) = codes "system " ++ (system_words system ++ (codes " scale" ++ 10 ∷ []))
system_line system (kept.Pivots bases) = numbered_detail (system_words system) (codes "bases") bases
system_line system (kept.Size rows columns) = two_numbers_detail (system_words system) (codes "s") rows columns

-- words, each with a space before it, up to the end of a line
abbrev pub spaced : List (List ℕ) → List ℕ
spaced [] = 10 ∷ []
spaced (w ∷ ws) = 32 ∷ (w ++ spaced ws)

-- the line of the cases that no terms rank
abbrev pub cases_line : List ℕ → List ℕ
cases_line set = codes "cases" ++ spaced (map decimal set)

-- the line of a point at a location
abbrev pub point_line : Word → List ℤ → List ℕ
point_line label point = codes "location " ++ (label ++ (codes " at" ++ spaced (map signed_decimal point)))

-- the line of a count at a location
abbrev pub count_line : Word → ℕ → List ℕ
count_line label count = codes "location " ++ (label ++ (codes " count " ++ (decimal count ++ 10 ∷ [])))

-- the first line of an unknown answer
abbrev pub cause_line : Cause → List ℕ
cause_line (Unsolved system fault) = unsolved_line fault
cause_line (Spent path) = codes "Unknown splits" ++ 10 ∷ []
cause_line (Composed column) = codes "Unknown width" ++ 10 ∷ []
cause_line (Unranked set barriers) = codes "Unknown rank" ++ 10 ∷ []
cause_line (Weak label point) = codes "Unknown invariant" ++ 10 ∷ []
cause_line (TooManyPaths label count) = codes "Unknown disjuncts" ++ 10 ∷ []
cause_line (TooManyPieces label count) = codes "Unknown disjuncts" ++ 10 ∷ []
cause_line (Drawn case) = codes "Unknown template" ++ 10 ∷ []
cause_line (Unsettled subformula) = codes "Unknown template" ++ 10 ∷ []
cause_line (WideComparison column) = codes "Unknown width" ++ 10 ∷ []

-- the second line
abbrev pub detail_line : Cause → List ℕ
detail_line (Unsolved system fault) = system_line system fault
detail_line (Spent path) = codes "splits " ++ (decimal (length path.items) ++ 10 ∷ [])
detail_line (Composed column) = codes "composed column " ++ (decimal column ++ 10 ∷ [])
detail_line (Unranked set barriers) = cases_line set.items
detail_line (Weak label point) = point_line label.items point.items
detail_line (TooManyPaths label count) = count_line label.items count
detail_line (TooManyPieces label count) = count_line label.items count
detail_line (Drawn case) = codes "draw case " ++ (decimal case ++ 10 ∷ [])
detail_line (Unsettled subformula) = codes "subformula " ++ (decimal subformula ++ 10 ∷ [])
detail_line (WideComparison column) = codes "composed column " ++ (decimal column ++ 10 ∷ [])
