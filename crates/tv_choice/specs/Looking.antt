use Rattle.std.specs.Prelude.{◌≡◌, ℕ, ◌<◌, List, [], ◌∷◌, ◌++◌, length, map, get_or, ℤ, Option, None, Some, Bool, true, false, Contains, Vec}
use Rattle.tv_linear.specs.Linear.{Linear, IsScaledPoint}
use Rattle.tv_linear.specs.Arithmetic.{denial}
use Rattle.tv_linear.specs.Known.{as_given}
use Rattle.tv_linear.specs.Refutation.{Refutes}
use Rattle.tv_farkas.specs.Refuting.{AreShort}
use Rattle.tv_farkas.specs.declared.fault.CoverFault.{CoverFault}
use Rattle.tv_farkas.specs.declared.fault.CoverFault.TheVariants.{Splits, Solve, Wide, Memory}
use Rattle.tv_cover.specs.Targets.{AreEven, HasPoint, IsNarrowRow}
use Rattle.tv_cover.specs.CoverPaths.{IsLeftOpen, IsShut}
use Rattle.tv_choice.specs.declared.looking.Shown.{Shown}
use Rattle.tv_choice.specs.declared.looking.Shown.TheVariants as shown
use Rattle.tv_choice.specs.declared.looking.Look.{Look}
use Rattle.tv_choice.specs.declared.looking.Look.TheVariants as looks
use Rattle.tv_choice.specs.declared.looking.Best.{Best}
use Rattle.tv_choice.specs.declared.looking.Best.TheVariants as best
use Rattle.tv_choice.specs.declared.place.Place.{Place}
use Rattle.tv_choice.specs.declared.ways.Way.{Way}
use Rattle.tv_choice.specs.Leading.{Query}
use Rattle.tv_choice.specs.ChoicePaths.{IsWayRows}
use Rattle.tv_choice.specs.Refusals.{IsUnsolvedHere}
use Rattle.tv_choice.specs.Ways.{way_rows}

-- the rows have n columns, and the point meets them
pub record IsPlace (n : ℕ) (p : Place) : Type 0 where
  pub even : AreEven n p.rows.now
  pub size : length p.values.now ≡ n
  pub meets : IsScaledPoint p.rows.now p.values.now p.scale

-- the row is one of a way at the rows above
abbrev pub IsWayRow : ℕ → Query → List Linear → Linear → Type 0
IsWayRow n q above r = (rows : List Linear) × IsWayRows n q above rows × Contains rows r

-- what a refusal shows where nothing is split, and where a denial is too wide at a column
abbrev pub IsLookFault : (ℕ → Type 0) → ℕ → Query → List Linear → ℕ → CoverFault → Type 0
IsLookFault wide n q above pivots (Splits path) = ⊥
IsLookFault wide n q above pivots (Solve kept fault) = IsUnsolvedHere n q above kept.items pivots fault
IsLookFault wide n q above pivots (Wide column) = wide column
IsLookFault wide n q above pivots Memory = Unit {0}

-- no column is
abbrev pub no_wide : ℕ → Type 0
no_wide column = ⊥

-- the short multipliers show the row with these rows: they refute them and its denial, which is narrow
pub record ShowsRow (n : ℕ) (rows : List Linear) (r : Linear) (ms : List ℤ) : Type 0 where
  pub refutes : Refutes n (as_given (rows ++ denial r ∷ [])) ms
  pub narrow : IsNarrowRow (denial r)
  pub short : AreShort ms

-- some point of the rows meets the denial of the row, which is narrow
abbrev pub IsOpenRow : ℕ → List Linear → Linear → Type 0
IsOpenRow n rows r = IsNarrowRow (denial r) × HasPoint n (rows ++ denial r ∷ [])

abbrev pub IsShown : {A : Type 0} → ℕ → List Linear → Linear → Option (Vec ℤ A) → Type 0
IsShown n rows r (Some ms) = ShowsRow n rows r ms.items
IsShown n rows r None = IsOpenRow n rows r

abbrev pub AreShown : ℕ → List Linear → List Linear → List (List ℤ) → Type 0
AreShown n rows [] [] = Unit {0}
AreShown n rows [] (ms ∷ lists) = ⊥
AreShown n rows (r ∷ owed) [] = ⊥
AreShown n rows (r ∷ owed) (ms ∷ lists) = ShowsRow n rows r ms × AreShown n rows owed lists

-- the item stands at the place
abbrev pub IsAt : {A : Type 0} → List A → ℕ → A → Type 0
IsAt xs place x = (place < length xs) × (get_or xs place x ≡ x)

-- the row at the place is not shown
abbrev pub IsOpenAt : ℕ → List Linear → List Linear → ℕ → Type 0
IsOpenAt n rows owed place = (r : Linear) × IsAt owed place r × IsOpenRow n rows r

abbrev pub AreAllShown : ℕ → List Linear → List Linear → Shown → Type 0
AreAllShown n rows owed (shown.All lists) = AreShown n rows owed (map (λ l. l.items) lists.items)
AreAllShown n rows owed (shown.Not place) = IsOpenAt n rows owed place

-- each of these rows is met by some point of the rows
abbrev pub AreEntered : ℕ → List Linear → List Linear → Type 0
AreEntered n rows owed = (r : Linear) → Contains owed r → HasPoint n (rows ++ r ∷ [])

abbrev pub IsAnyExcluded : ℕ → List Linear → List Linear → Bool → Type 0
IsAnyExcluded n rows owed true = IsShut n rows owed
IsAnyExcluded n rows owed false = AreEntered n rows owed

-- the row at the place is not shown, and no row is excluded
abbrev pub IsOpen : ℕ → List Linear → List Linear → ℕ → Type 0
IsOpen n rows owed place = IsOpenAt n rows owed place × AreEntered n rows owed

abbrev pub IsLook : ℕ → List Linear → List Linear → Look → Type 0
IsLook n rows owed (looks.Shown lists) = AreShown n rows owed (map (λ l. l.items) lists.items)
IsLook n rows owed (looks.Open place) = IsOpen n rows owed place
IsLook n rows owed looks.Excluded = IsShut n rows owed × IsLeftOpen n rows owed

-- no way can be taken at each point of the rows
abbrev pub NoneShown : ℕ → List Linear → List Way → Type 0
NoneShown n rows ways = (w : Way) → Contains ways w → IsLeftOpen n rows (way_rows w)

-- each way has a row that no point of the rows meets
abbrev pub AllShut : ℕ → List Linear → List Way → Type 0
AllShut n rows ways = (w : Way) → Contains ways w → IsShut n rows (way_rows w)

abbrev pub IsBest : ℕ → List Linear → List Way → Best → Type 0
IsBest n rows ways (best.Take way lists) = (w : Way) × IsAt ways way w × AreShown n rows (way_rows w) (map (λ l. l.items) lists.items)
IsBest n rows ways (best.Split way row) = (w : Way) × IsAt ways way w × IsOpen n rows (way_rows w) row × NoneShown n rows ways
IsBest n rows ways best.Nothing = AllShut n rows ways × NoneShown n rows ways

-- what the ways come to, where one of them has this open row
abbrev pub IsOpened : ℕ → ℕ → Best → Best → Type 0
IsOpened way row (best.Take w lists) b = b ≡ best.Take w lists
IsOpened way row (best.Split w r) b = b ≡ best.Split w r
IsOpened way row best.Nothing b = b ≡ best.Split way row

-- what ways and one more come to
abbrev pub IsOneMore : ℕ → Look → Best → Best → Type 0
IsOneMore way (looks.Shown lists) b c = c ≡ best.Take way lists
IsOneMore way (looks.Open row) b c = IsOpened way row b c
IsOneMore way looks.Excluded b c = c ≡ b
