-- The rows that are owed on entering a target, as they are lent one by one.
use Rattle.std.specs.Prelude.{◌≡◌, ℕ, ◌++◌, ◌∷◌, [], List, map, ℤ, Bool, IsTrue, ◌↔◌, slice_get, Option, None, Some}
use Rattle.tv_linear.specs.Linear.{Linear}
use Rattle.tv_linear.specs.Known.{Known, as_given, denied}
use Rattle.tv_linear.specs.Falls.{fall_rows_at}
use Rattle.tv_linear.specs.Refutation.{Refutes}
use Rattle.tv_refute.specs.Built.{change_of}
use Rattle.tv_linear.specs.Views.{rows_seen}
use Rattle.tv_cert.specs.declared.fall.Fall.{Fall}
use Rattle.tv_cert.specs.declared.owed.Entered.{Entered}
use Rattle.tv_cert.specs.declared.owed.TakenGuards.{TakenGuards}
use Rattle.tv_cert.specs.declared.owed.OwedRows.{OwedRows}

-- the rows, or none
abbrev pub listed : Option (List Known) → List Known
listed None = []
listed (Some rows) = rows

-- the rows of a fall, where there is one
abbrev pub fall_listed : (Linear → Known) → Option Fall → List Known
fall_listed change None = []
fall_listed change (Some fall) = listed (fall_rows_at (as_given (rows_seen fall.old)) (map change (rows_seen fall.new)) fall.place)

-- the rows of the target, which are changed, and then those of the fall
abbrev pub entered_listed : (Linear → Known) → Entered → List Known
entered_listed change entered = map change (rows_seen entered.rows) ++ fall_listed change entered.fall

-- the guards of the case that is taken, where one is, which are changed
abbrev pub guards_listed : Option TakenGuards → List Known
guards_listed None = []
guards_listed (Some guards) = map (change_of guards.change.now) guards.rows.now

-- the guards, then the rows of the target and the fall
abbrev pub owed_listed : OwedRows → List Known
owed_listed owed = guards_listed owed.guards ++ entered_listed (change_of owed.change.now) owed.entered

-- `shown` says whether the multipliers show the row at a place, where n columns are known to meet these rows
abbrev pub ShowsRow : ℕ → List Known → List Known → ℕ → List ℤ → Bool → Type 0
ShowsRow n known rows place ms shown = (row : Known) → slice_get rows place ≡ Some row → IsTrue shown ↔ Refutes n (known ++ denied row ∷ []) ms
