-- The terms of components, and how many there are.
use Rattle.std.specs.Prelude.{ℕ, ◌+◌, ◌≤◌, List, [], length, map, get_or}
use Rattle.tv_rank.specs.declared.found.LocalTerm.{LocalTerm}
use Rattle.tv_lexrank.specs.declared.round.Round.{Round}
use Rattle.tv_nested.specs.declared.part.Part.{Part}
use Rattle.tv_nested.specs.Parts.{tuple_in}

-- the rounds of a component
abbrev pub rounds_in : List Part → ℕ → List Round
rounds_in parts c = get_or (map (λ p. p.rounds.items) parts) c []

-- its terms that are nested
abbrev pub tuple_at : List Part → ℕ → List (List LocalTerm)
tuple_at parts c = get_or (map (λ p. tuple_in p) parts) c []

-- how many terms it has
abbrev pub amount_in : List Part → ℕ → ℕ
amount_in parts c = length (rounds_in parts c) + length (tuple_at parts c)

-- no component has more rounds than a program has cases, and more than 4 terms that are nested
abbrev pub AreFew : List Part → Type 0
AreFew parts = (number : ℕ) → amount_in parts number ≤ 8196
