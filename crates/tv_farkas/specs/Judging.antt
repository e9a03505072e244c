use Rattle.std.specs.Prelude.{◌≡◌, ℕ, List, ℤ}
use Rattle.tv_linear.specs.Linear.{Linear, IsScaledPoint}
use Rattle.tv_linear.specs.Known.{as_given}
use Rattle.tv_linear.specs.Refutation.{Refutes}
use Rattle.tv_simplex.specs.Outcomes.{IsShort}
use Rattle.tv_simplex.specs.declared.fault.SolveFault.{SolveFault}
use Rattle.tv_simplex.specs.declared.fault.SolveFault.TheVariants as faults
use Rattle.tv_farkas.specs.declared.judged.Judged.{Judged}
use Rattle.tv_farkas.specs.declared.judged.Judged.TheVariants as judged
use Rattle.tv_farkas.specs.declared.fault.CoverFault.{CoverFault}
use Rattle.tv_farkas.specs.declared.fault.CoverFault.TheVariants.{Splits, Solve, Wide, Memory}
use Rattle.tv_farkas.specs.RefutationSystem.{IsPointOf}
use Rattle.tv_farkas.specs.Refuting.{AreShort, IsSystemFault}
use Rattle.tv_farkas.specs.Paths.{TakenOnce}

-- one short multiplier for each row, which refute the rows
pub record AreJudging (n : ℕ) (rows : List Linear) (multipliers : List ℤ) : Type 0 where
  pub refutes : Refutes n (as_given rows) multipliers
  pub short : AreShort multipliers

-- the point of the rows, each taken once; it meets them all, and its numbers are short
pub record IsPointAt (n : ℕ) (rows : List Linear) (values : List ℤ) (scale : ℤ) : Type 0 where
  pub kept : List Linear
  pub taken : TakenOnce rows kept
  pub point : IsPointOf n kept values scale
  pub met : IsScaledPoint rows values scale
  pub short : AreShort values
  pub scale_short : IsShort scale

abbrev pub IsJudged : ℕ → List Linear → Judged → Type 0
IsJudged n rows (judged.Refuted multipliers) = AreJudging n rows multipliers.items
IsJudged n rows (judged.Point values scale) = IsPointAt n rows values.items scale

-- the kept rows are these, each taken once, and their refutation system has the fault; want of memory shows nothing
abbrev pub IsJudgeFault : ℕ → List Linear → ℕ → CoverFault → Type 0
IsJudgeFault n rows pivots (Splits path) = ⊥
IsJudgeFault n rows pivots (Solve kept fault) = TakenOnce rows kept.items × IsSystemFault n kept.items pivots fault
IsJudgeFault n rows pivots (Wide column) = ⊥
IsJudgeFault n rows pivots Memory = Unit {0}

-- the fault says something of a system
abbrev pub IsShown : SolveFault → Type 0
IsShown (faults.Width basis row column) = Unit {0}
IsShown (faults.Scale basis) = Unit {0}
IsShown (faults.Pivots bases) = Unit {0}
IsShown (faults.Size rows columns) = Unit {0}
IsShown faults.Memory = ⊥

-- the refusal hands the rows on with the fault of the solver, or there is no memory
abbrev pub IsHandedOn : List Linear → SolveFault → CoverFault → Type 0
IsHandedOn kept fault (Splits path) = ⊥
IsHandedOn kept fault (Solve rows f) = (rows.items ≡ kept) × (f ≡ fault) × IsShown f
IsHandedOn kept fault (Wide column) = ⊥
IsHandedOn kept fault Memory = Unit {0}
