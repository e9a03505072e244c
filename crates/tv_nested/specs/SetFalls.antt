-- What shows the cases of a set over which terms are nested.
use Rattle.std.specs.Prelude.{◌≡◌, ℕ, suc, ◌+◌, ◌-◌, ◌<◌, List, [], ◌∷◌, ◌++◌, length, map, take, get_or, ℤ, pos}
use Rattle.tv_linear.specs.Arithmetic.{zeros}
use Rattle.tv_linear.specs.Terms.{table}
use Rattle.tv_rank.specs.Given.{lists}
use Rattle.tv_lexrank.specs.Rounds.{falls_in, lines_of}
use Rattle.tv_lexrank.specs.declared.falling.Fall.{Fall}
use Rattle.tv_nested.specs.declared.nesting.Family.{Family}
use Rattle.tv_nested.specs.declared.part.Part.{Part}
use Rattle.tv_nested.specs.Families.{line_at}
use Rattle.tv_nested.specs.Lines.{own_line, under_line}
use Rattle.tv_nested.specs.Reading.{lines_of_cases}

-- the case at the place has multipliers for the identities up to an index
pub record HasLines (family : Family) (place index : ℕ) : Type 0 where
  pub place_in : place < length family.lines.items
  pub index_in : index < length (get_or (lines_of_cases family.lines.items) place [])

-- the line without its last multiplier, with 1 for the last of `many` rows before it
abbrev pub ends_under : ℕ → List ℤ → List ℤ
ends_under many line = under_line many many (take (length line - 1) line)

-- the multipliers of the identity of a case
abbrev pub family_line : Family → ℕ → ℕ → List ℤ
family_line family place i = line_at (lines_of_cases family.lines.items) place i

-- the multipliers that refute that all terms of a family are below 0 where the case is taken
abbrev pub end_line : Family → ℕ → List ℤ
end_line family place = ends_under (length family.terms.items) (family_line family place (length family.terms.items))

-- the lines by which the first terms fall over a case, from a piece
abbrev pub step_lines : Family → ℕ → ℕ → List (List ℤ)
step_lines family place piece = table (suc piece) (λ i. under_line (piece + 1) i (family_line family place i))

-- the lines by which the ranks fall at the term of a piece: those of the number of the component and of the rounds, of the first terms,
-- and of the bound of the one that falls
abbrev pub set_lines : Part → ℕ → ℕ → ℕ → ℕ → List (List ℤ)
set_lines p place piece k met =
    map (under_line (piece + 1) 0) ((zeros met ++ pos 1 ∷ []) ∷ lines_of k p.rounds.items)
    ++ (step_lines p.family place piece ++ own_line (piece + 1 + met) piece ∷ [])

abbrev pub IsSetFall : Part → ℕ → ℕ → ℕ → ℕ → Fall → Type 0
IsSetFall p place piece k met fall = (fall.number ≡ falls_in k p.rounds.items + 2 + piece) × (lists fall.lines.items ≡ set_lines p place piece k met)
