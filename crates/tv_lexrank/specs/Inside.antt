use Rattle.std.specs.Prelude.{ℕ, zero, suc, ◌+◌, List, map, get_or, ◌==◌, if◌then◌else◌}
use Rattle.tv_cases.specs.LinearCases.{LinearCase, CaseSystem}

-- the component inside which a case leads, by the numbers of the components of the locations; `count`, which is none, where it leads
-- out of one
abbrev pub inside_key : List ℕ → ℕ → LinearCase → ℕ
inside_key numbers count c = if get_or numbers c.from 0 == get_or numbers c.to 0 then get_or numbers c.from 0 else count

abbrev pub inside_keys : CaseSystem → List ℕ → ℕ → List ℕ
inside_keys about numbers count = map (inside_key numbers count) about.cases

-- what is after the first places of a list of ascending numbers: one more than the last of them, and 0 before any
abbrev pub behind : List ℕ → ℕ → ℕ
behind places zero = 0
behind places (suc p) = get_or places p 0 + 1
