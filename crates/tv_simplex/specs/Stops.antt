use Rattle.std.specs.Prelude.{◌≡◌, ℕ, ◌<◌, ◌^◌, List, length, Vec}
use Rattle.tv_simplex.specs.Ratios.{Ratio}
use Rattle.tv_simplex.specs.declared.rows.Entry.{Entry}
use Rattle.tv_simplex.specs.declared.stop.Stop.{Stop}
use Rattle.tv_simplex.specs.declared.stop.Stop.TheVariants.{Wide, Scale, Memory}
use Rattle.tv_simplex.specs.declared.fault.SolveFault.{SolveFault}
use Rattle.tv_simplex.specs.declared.fault.SolveFault.TheVariants as faults
use Rattle.tv_simplex.specs.Rows.{row_of, IsTaken, IsWideBy}
use Rattle.tv_simplex.specs.Exchanges.{IsWideNext}

-- at a place of another row than r stands a fraction that is not narrow, where the pivot row is taken away
abbrev pub IsClearingStop : {A : Type 0} → ℕ → ℕ → (ℕ → Ratio) → List Entry → List (Vec Entry A) → Stop → Type 0
IsClearingStop width r factor pivots rows (Wide i j) = (i < length rows) × (i ≡ r → ⊥) × IsWideBy (IsTaken (row_of rows i) (factor i) pivots) width j
IsClearingStop width r factor pivots rows Scale = ⊥
IsClearingStop width r factor pivots rows Memory = Unit {0}

-- at a place stands a fraction that is not narrow, where column c enters in row r
abbrev pub IsExchangeStop : {A : Type 0} → ℕ → ℕ → ℕ → List (Vec Entry A) → Stop → Type 0
IsExchangeStop width r c rows (Wide i j) = IsWideNext width r c rows i j
IsExchangeStop width r c rows Scale = ⊥
IsExchangeStop width r c rows Memory = Unit {0}

-- the place has numbers of 32 bits
abbrev pub HasNumberedPlace : Stop → Type 0
HasNumberedPlace (Wide row column) = (row < 2 ^ 32) × (column < 2 ^ 32)
HasNumberedPlace Scale = Unit {0}
HasNumberedPlace Memory = Unit {0}

abbrev pub IsWidthOf : List ℕ → ℕ → ℕ → SolveFault → Type 0
IsWidthOf basis row column (faults.Width b r c) = (b.items ≡ basis) × (r ≡ row) × (c ≡ column)
IsWidthOf basis row column (faults.Scale b) = ⊥
IsWidthOf basis row column (faults.Pivots n) = ⊥
IsWidthOf basis row column (faults.Size r c) = ⊥
IsWidthOf basis row column faults.Memory = ⊥

abbrev pub IsScaleOf : List ℕ → SolveFault → Type 0
IsScaleOf basis (faults.Width b r c) = ⊥
IsScaleOf basis (faults.Scale b) = b.items ≡ basis
IsScaleOf basis (faults.Pivots n) = ⊥
IsScaleOf basis (faults.Size r c) = ⊥
IsScaleOf basis faults.Memory = ⊥

-- the refusal says what stopped, with the basis
abbrev pub IsFaultAt : Stop → List ℕ → SolveFault → Type 0
IsFaultAt (Wide row column) basis fault = IsWidthOf basis row column fault
IsFaultAt Scale basis fault = IsScaleOf basis fault
IsFaultAt Memory basis fault = fault ≡ faults.Memory
