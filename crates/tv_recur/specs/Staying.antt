-- Steps from an initial state to itself.
use Rattle.std.specs.Prelude.{◌≡◌, ℕ, ◌+◌, ◌<◌, List, [], ◌∷◌, ◌++◌, ℤ, slice_get, Some}
use Rattle.std.specs.List.{flat_map}
use Rattle.tv_linear.specs.Linear.{Linear}
use Rattle.tv_linear.specs.Arithmetic.{plus, opposite, column_row}
use Rattle.tv_linear.specs.declared.region.Update.{Update}
use Rattle.tv_program.specs.Steps.{State}
use Rattle.tv_cases.specs.LinearCases.{LinearCase, CaseSystem, CaseDoes}
use Rattle.tv_known.specs.Cycles.{IsInitialAt}

-- what an update over w columns adds to its variable, and what it takes off
abbrev pub added : ℕ → Update → Linear
added w u = plus u.term (opposite (column_row w u.variable))

abbrev pub taken_off : ℕ → Update → Linear
taken_off w u = plus (column_row w u.variable) (opposite u.term)

-- the rows that are met where the updates change nothing
abbrev pub unchanged_rows : ℕ → List Update → List Linear
unchanged_rows w us = flat_map (λ u. added w u ∷ taken_off w u ∷ []) us

-- the rows that are met where the case can be taken and changes nothing
abbrev pub staying_rows : ℕ → LinearCase → List Linear
staying_rows n c = c.guards ++ unchanged_rows (n + c.draws) c.updates

-- no initial state steps to itself by the case
abbrev pub NeverStays : CaseSystem → LinearCase → Type 0
NeverStays about c = (s : State) → IsInitialAt about s → (ds : List ℤ) → CaseDoes c ds s s → ⊥

-- nor by that with the number, if there is one
abbrev pub NeverStaysAt : CaseSystem → ℕ → Type 0
NeverStaysAt about k = (c : LinearCase) → slice_get about.cases k ≡ Some c → NeverStays about c

-- nor by any of the first `k` cases
abbrev pub NeverStaysBelow : CaseSystem → ℕ → Type 0
NeverStaysBelow about k = (j : ℕ) → j < k → NeverStaysAt about j
