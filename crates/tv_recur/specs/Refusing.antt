-- What a refusal shows: no row is handed in, and at most two cases lie on the way.
use Rattle.std.specs.Prelude.{◌≡◌, ◌⊎◌, ℕ, ◌<◌, List, [], get_or, Contains, All, ℤ, Err}
use Rattle.tv_linear.specs.Linear.{Linear}
use Rattle.tv_linear.specs.Fits.{GivesRow}
use Rattle.tv_linear.specs.declared.fault.RowFault.TheVariants as row
use Rattle.tv_linear.specs.declared.region.Update.{Update}
use Rattle.tv_cases.specs.LinearCases.{LinearCase, CaseSystem}
use Rattle.tv_farkas.specs.declared.branch.Branch.{Branch}
use Rattle.tv_farkas.specs.declared.budget.Budget.{Budget}
use Rattle.tv_farkas.specs.declared.fault.CoverFault.{CoverFault}
use Rattle.tv_farkas.specs.declared.fault.CoverFault.TheVariants.{Splits, Solve, Wide, Memory}
use Rattle.tv_derived.specs.Derived.{IsDerived, IsDrawTerm, false_row}
use Rattle.tv_derived.specs.Faults.{IsRefusalOf}
use Rattle.tv_derived.specs.Questions.{IsSpentOnRows}
use Rattle.tv_derived.specs.Scopes.{Scope, over_case}
use Rattle.tv_cover_refusals.specs.Covers.{IsSpentOnTargets}
use Rattle.tv_points.specs.PointRows.{number_rows}
use Rattle.tv_recur.specs.Staying.{added, taken_off}

-- a path that has spent `splits` splits, on a cover of one target or on an integer point
abbrev pub IsSpent : CaseSystem → ℕ → List Branch → Type 0
IsSpent about splits path = IsSpentOnTargets about [] 1 2 splits path ⊎ IsSpentOnRows about [] 2 splits path

abbrev pub IsRefusal : CaseSystem → Budget → CoverFault → Type 0
IsRefusal about budget fault = IsRefusalOf about [] 2 budget.pivots (IsSpent about budget.splits) fault

-- rows of the scope that come from the cases, with `h` of them on the way
abbrev pub AreFrom : CaseSystem → Scope → ℕ → List Linear → Type 0
AreFrom about f h rows = All (IsDerived about [] f h) rows

-- the numbers may be put in for the draws of the case, with `h` cases on the way, or with two
abbrev pub MayPutAt : ℕ → CaseSystem → LinearCase → List ℤ → Type 0
MayPutAt h about c ds = (j : ℕ) → j < c.draws → IsDrawTerm about [] (over_case c) h j (get_or (number_rows about.variables ds) j (false_row 0))

abbrev pub MayPut : CaseSystem → LinearCase → List ℤ → Type 0
MayPut = MayPutAt 2

-- one of the two rows of an update is too wide
abbrev pub IsUnmadeUpdate : ℕ → Update → CoverFault → Type 0
IsUnmadeUpdate w u (Splits path) = ⊥
IsUnmadeUpdate w u (Solve kept fault) = ⊥
IsUnmadeUpdate w u (Wide column) = GivesRow (added w u) (Err (row.Wide column)) ⊎ GivesRow (taken_off w u) (Err (row.Wide column))
IsUnmadeUpdate w u Memory = Unit {0}

-- so it is with one of the updates, or memory runs out
abbrev pub IsUnmadeAmong : ℕ → List Update → CoverFault → Type 0
IsUnmadeAmong w us fault = (fault ≡ Memory) ⊎ ((u : Update) × Contains us u × IsUnmadeUpdate w u fault)
