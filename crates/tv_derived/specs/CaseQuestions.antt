-- Does a case keep a row at integer points, where some rows hold before it? The rows that are asked of, and where they come from.
use Rattle.std.specs.Prelude.{◌≡◌, ℕ, List, [], ◌∷◌, ◌++◌, map, Contains, Result, Ok, MatchResult}
use Rattle.tv_linear.specs.Linear.{Linear, columns}
use Rattle.tv_linear.specs.Arithmetic.{zeros, denial}
use Rattle.tv_linear.specs.Fits.{GivesRow}
use Rattle.tv_linear.specs.declared.fault.RowFault.{RowFault}
use Rattle.tv_cases.specs.LinearCases.{LinearCase, CaseSystem}
use Rattle.tv_cases.specs.Before.{before, GivesBefore}
use Rattle.tv_farkas.specs.declared.fault.CoverFault.{CoverFault}
use Rattle.tv_farkas.specs.EmptyPaths.{IsEmptyFault}
use Rattle.tv_derived.specs.Scopes.{over_case, width_at, with_more, Placed, placed}
use Rattle.tv_derived.specs.Derived.{IsDerived, AreUnsplit}
use Rattle.tv_derived.specs.Faults.{IsStepFault, IsRefusalOf}
use Rattle.tv_derived.specs.Questions.{IsSpentOnRows}

-- the rows handed in: one after the case, and some before it
abbrev pub handed_rows : LinearCase → List Linear → Linear → List Placed
handed_rows c rows owed = placed c.to owed ∷ map (placed c.from) rows

-- the rows that hold over the case: those before it, and its guards
abbrev pub known_rows : LinearCase → List Linear → List Linear
known_rows c rows = map (λ r. with_more r (zeros c.draws)) rows ++ c.guards

-- the same, and the denial of the row after it
abbrev pub case_rows : LinearCase → List Linear → Linear → List Linear
case_rows c rows owed = known_rows c rows ++ denial (before owed c) ∷ []

-- a case of the program, and a row over its variables
pub record IsAsked (about : CaseSystem) (c : LinearCase) (owed : Linear) : Type 0 where
  pub among : Contains about.cases c
  pub even : columns owed ≡ about.variables

-- the rows that hold over the case are derived, with no case on the way or more
abbrev pub KnownAreDerived : CaseSystem → LinearCase → List Linear → Linear → Type 0
KnownAreDerived about c rows owed = (h : ℕ) → AreUnsplit about (handed_rows c rows owed) (over_case c) h (known_rows c rows)

-- the row after the case, put before it, is derived with one case on the way, or not made by one step
abbrev pub OwedIsPut : CaseSystem → LinearCase → List Linear → Linear → Type 0
OwedIsPut about c rows owed =
    (result : Result Linear RowFault) → GivesBefore owed c result
    → MatchResult result (IsDerived about (handed_rows c rows owed) (over_case c) 1) (IsStepFault about (handed_rows c rows owed) 1)

-- and so is its denial
abbrev pub OwedIsDenied : CaseSystem → LinearCase → List Linear → Linear → Type 0
OwedIsDenied about c rows owed =
    (row : Linear) (result : Result Linear RowFault) → GivesBefore owed c (Ok row) → GivesRow (denial row) result
    → MatchResult result (IsDerived about (handed_rows c rows owed) (over_case c) 1) (IsStepFault about (handed_rows c rows owed) 1)

-- then a refusal of `empty` over these rows is one of a layer with one case on the way
abbrev pub EmptyRefusesCase : CaseSystem → LinearCase → List Linear → Linear → Type 0
EmptyRefusesCase about c rows owed =
    (row last : Linear) (pivots splits : ℕ) (fault : CoverFault) → GivesBefore owed c (Ok row) → GivesRow (denial row) (Ok last)
    → IsEmptyFault (width_at about (over_case c)) (case_rows c rows owed) pivots splits fault
    → IsRefusalOf about (handed_rows c rows owed) 1 pivots (IsSpentOnRows about (handed_rows c rows owed) 1 splits) fault
