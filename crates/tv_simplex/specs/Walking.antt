use Rattle.std.specs.Prelude.{◌≡◌, ℕ, ◌+◌, ◌<◌, ◌≤◌, List, length, get_or, ℤ, pos, ◌-ℤ◌, ◌*ℤ◌, ◌<ℤ◌}
use Rattle.tv_fraction.specs.declared.Fraction.{Fraction}
use Rattle.tv_simplex.specs.Sums.{total, delta}
use Rattle.tv_simplex.specs.Systems.{Equations, matrix, sign}
use Rattle.tv_simplex.specs.Chains.{column}
use Rattle.tv_simplex.specs.Ratios.{Ratio, Shows}
use Rattle.tv_simplex.specs.Outcomes.{IsShort, IsWide, HasNoScale}
use Rattle.tv_simplex.specs.declared.answer.Answer.{Answer}
use Rattle.tv_simplex.specs.declared.stop.Stop.{Stop}
use Rattle.tv_simplex.specs.declared.stop.Stop.TheVariants.{Wide, Scale, Memory}
use Rattle.tv_simplex.specs.declared.table.Table.{Table}
use Rattle.tv_simplex.specs.declared.table.Settled.{Settled}
use Rattle.tv_simplex.specs.declared.table.Settled.TheVariants.{Done, Enters}
use Rattle.tv_simplex.specs.Views.{IsAnswer, GivesAnswer}
use Rattle.tv_simplex.specs.Tables.{shown, IsTable, HasSize}
use Rattle.tv_simplex.specs.Choosing.{IsFirstNegative}
use Rattle.tv_simplex.specs.Scales.{ratio_at, AreBounded}

-- the fractions are those of the first rows in a column
pub record AreOfColumn (height column : ℕ) (read : ℕ → ℕ → Ratio) (fractions : List Fraction) : Type 0 where
  pub size : length fractions ≡ height
  pub same : (i : ℕ) → i < height → ratio_at fractions i ≡ read i column
  pub bounded : AreBounded fractions

-- f is g less 1
pub record IsLessOne (f g : Ratio) : Type 0 where
  pub positive : pos 0 <ℤ f.denominator
  pub same : f.numerator *ℤ g.denominator ≡ (g.numerator -ℤ g.denominator) *ℤ f.denominator

-- the fractions are those of the objective row in the artificial columns, less 1
pub record AreOfObjective (rows columns : ℕ) (objective : ℕ → Ratio) (fractions : List Fraction) : Type 0 where
  pub size : length fractions ≡ rows
  pub same : (k : ℕ) → k < rows → IsLessOne (ratio_at fractions k) (objective (columns + k))
  pub bounded : AreBounded fractions

-- no column stands twice in the first n places of the basis
abbrev pub AreDistinct : ℕ → List ℕ → Type 0
AreDistinct n basis = (i l : ℕ) → i < n → l < i → column basis i ≡ column basis l → ⊥

-- each column has the numbers at its places in the first n places of the basis
pub record AreValues (n columns : ℕ) (basis : List ℕ) (numbers values : List ℤ) : Type 0 where
  pub size : length values ≡ columns
  pub short : (j : ℕ) → j < columns → IsShort (get_or values j (pos 0))
  pub sums : (j : ℕ) → j < columns →
      get_or values j (pos 0) ≡ total n (λ i. delta (column basis i) j *ℤ get_or numbers i (pos 0))

-- the numbers with the signs of the first n rows
pub record AreSigned (s : Equations) (n : ℕ) (numbers y : List ℤ) : Type 0 where
  pub size : length y ≡ n
  pub short : (k : ℕ) → k < n → IsShort (get_or y k (pos 0))
  pub same : (k : ℕ) → k < n → get_or y k (pos 0) ≡ sign s k *ℤ get_or numbers k (pos 0)

-- the table is the tableau of the last of n + 1 bases of the chain of the system
pub record StandsAt (s : Equations) (n : ℕ) (t : Table) : Type 0 where
  pub table : IsTable t
  pub size : HasSize s.rows s.columns t
  pub earlier : List (List ℕ)
  pub many : length earlier ≡ n
  pub shows : Shows (matrix s) s.rows s.columns t.basis.items earlier (shown t)

abbrev pub Stands : Equations → Table → Type 0
Stands s t = (n : ℕ) × StandsAt s n t

-- each artificial column of the basis has the value 0
abbrev pub IsSolved : Equations → Table → Type 0
IsSolved s t = (i : ℕ) → i < s.rows → s.columns ≤ column t.basis.items i → (shown t i (s.columns + s.rows)).numerator ≡ pos 0

-- the artificial column of this row has another value than 0
pub record IsUnsolvedAt (s : Equations) (t : Table) (i : ℕ) : Type 0 where
  pub within : i < s.rows
  pub artificial : s.columns ≤ column t.basis.items i
  pub valued : (shown t i (s.columns + s.rows)).numerator ≡ pos 0 → ⊥

-- the basis does not settle the system, and this column enters
pub record IsEntering (s : Equations) (t : Table) (c : ℕ) : Type 0 where
  pub place : ℕ
  pub unsolved : IsUnsolvedAt s t place
  pub first : IsFirstNegative (shown t s.rows) s.columns c

-- the answer is right, and is that of the last basis of the chain
pub record IsRight (s : Equations) (a : Answer) : Type 0 where
  pub answers : IsAnswer s a
  pub last : GivesAnswer s a

abbrev pub IsSettledBy : Equations → Table → Settled → Type 0
IsSettledBy s t (Done a) = IsRight s a
IsSettledBy s t (Enters c) = IsEntering s t c

-- what stops an answer
abbrev pub IsAnswerStop : Equations → List ℕ → Stop → Type 0
IsAnswerStop s basis (Wide row column) = ⊥
IsAnswerStop s basis Scale = HasNoScale s basis
IsAnswerStop s basis Memory = Unit {0}

-- what stops an exchange
abbrev pub IsStepStop : Equations → List ℕ → Stop → Type 0
IsStepStop s basis (Wide row column) = IsWide s basis row column
IsStepStop s basis Scale = ⊥
IsStepStop s basis Memory = Unit {0}

-- what stops the walk
abbrev pub IsWalkStop : Equations → List ℕ → Stop → Type 0
IsWalkStop s basis (Wide row column) = IsWide s basis row column
IsWalkStop s basis Scale = HasNoScale s basis
IsWalkStop s basis Memory = Unit {0}
