-- What is left of a table of rows from where a walk over it stands, which goes through it at each location again.
use Rattle.std.specs.Prelude.{ℕ, zero, suc, ◌+◌, ◌-◌, List, [], ◌++◌, map, get_or, take, drop, Option, Some}
use Rattle.std.specs.List.{flat_map}
use Rattle.tv_linear.specs.Linear.{Linear}
use Rattle.tv_cases.specs.LinearCases.{CaseSystem}
use Rattle.tv_candidates.specs.declared.candidate.Candidate.{Candidate}
use Rattle.tv_candidates.specs.Offered.{candidate}
use Rattle.tv_propose.specs.declared.walk.Walk.{Walk}
use Rattle.tv_propose.specs.Everywhere.{from_location}

-- lists joined in order
abbrev pub flat : {A : Type 0} → List (List A) → List A
flat lists = flat_map (λ xs. xs) lists

-- the rows of a table, group by group and place by place
abbrev pub rows_of : List (List (List Linear)) → List Linear
rows_of groups = flat_map flat groups

-- what is left of a group from a row of a place on
abbrev pub left_in_group : List (List Linear) → ℕ → ℕ → List Linear
left_in_group places place row = drop row (get_or places place []) ++ flat (drop (place + 1) places)

-- what is left of a table
abbrev pub left_in_table : List (List (List Linear)) → Walk → List Linear
left_in_table groups w = left_in_group (get_or groups w.group []) w.place w.row ++ rows_of (drop (w.group + 1) groups)

-- some rows at the first of m locations, and all rows at the others
abbrev pub left_from : ℕ → ℕ → List Linear → List Linear → List Candidate
left_from zero l here rows = []
left_from (suc m) l here rows = map (candidate l) here ++ from_location m (suc l) rows

-- the candidates that a walk still gives: those that are left, cut at the number that it may give
abbrev pub rest_of : CaseSystem → List (List (List Linear)) → Walk → Option (List Candidate)
rest_of about groups w = Some (take w.left (left_from (about.locations - w.location) w.location (left_in_table groups w) (rows_of groups)))
