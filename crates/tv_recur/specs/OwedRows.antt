-- The rows that a case owes on entering rows, with numbers for its draws.
use Rattle.std.specs.Prelude.{◌≡◌, ℕ, List, ◌++◌, length, map, slice_get, Some, All, ℤ, ◌^◌, ◌<◌, ◌≤◌}
use Rattle.tv_linear.specs.Linear.{Linear, IsMet, IsWithin}
use Rattle.tv_linear.specs.Known.{term_value}
use Rattle.tv_linear.specs.Terms.{terms_after}
use Rattle.tv_cases.specs.LinearCases.{LinearCase}
use Rattle.tv_cases.specs.Systems.{cases_of}
use Rattle.tv_cases.specs.Views.{case_view}
use Rattle.tv_cases.specs.Before.{FitsBefore, rows_before}
use Rattle.tv_farkas.specs.Paths.{IsWholePoint}
use Rattle.tv_recur.specs.Making.{FitsPut, rows_put, drawn_terms}
use Rattle.tv_recur.specs.Refusing.{MayPut}
use Rattle.tv_recur.specs.declared.taking.Taking.{Taking}

-- the rows that are owed: the guards, and the rows that are entered before the case, with the numbers put in
abbrev pub owed_rows : ℕ → LinearCase → List ℤ → List Linear → List Linear
owed_rows n c ds into = rows_put (drawn_terms n ds) c.guards ++ rows_put (drawn_terms n ds) (rows_before c into)

-- so they are, and each fits
pub record AreOwed (n : ℕ) (c : LinearCase) (ds : List ℤ) (into made : List Linear) : Type 0 where
  pub exact : made ≡ owed_rows n c ds into
  pub guards : All (FitsPut (drawn_terms n ds)) c.guards
  pub before : All (FitsBefore c) into
  pub put : All (FitsPut (drawn_terms n ds)) (rows_before c into)

-- the case can be taken at the values with these draws, and leads to values that meet the rows
pub record Enters (c : LinearCase) (ds : List ℤ) (entered : List Linear) (xs : List ℤ) : Type 0 where
  pub guards : All (IsMet (xs ++ ds)) c.guards
  pub into : All (IsMet (map (term_value (xs ++ ds)) (terms_after (length xs) c.updates))) entered

-- at some integer point of the rows it does not
pub record IsLeft (n : ℕ) (c : LinearCase) (ds : List ℤ) (rows into : List Linear) : Type 0 where
  pub values : List ℤ
  pub point : IsWholePoint n rows values
  pub leaves : Enters c ds into values → ⊥

-- the case is that of its number, and there is a number below 2^62 in magnitude for each of its draws, which may be put in
pub record IsTaking (t : Taking) : Type 0 where
  pub found : slice_get (cases_of t.about.now).cases t.number ≡ Some (case_view t.case.now)
  pub counted : length t.draws.now ≡ t.case.now.draws
  pub narrow : All (IsWithin 62) t.draws.now
  pub may : MayPut (cases_of t.about.now) (case_view t.case.now) t.draws.now
  pub near : t.place < 2 ^ 32
  pub splits : t.budget.now.splits ≤ 128
