-- Signs that are too wide.
use Rattle.std.specs.Prelude.{ℕ, List, Contains, Err}
use Rattle.tv_linear.specs.Linear.{Linear}
use Rattle.tv_linear.specs.Arithmetic.{denial}
use Rattle.tv_linear.specs.Fits.{GivesRow}
use Rattle.tv_linear.specs.declared.fault.RowFault.TheVariants as row
use Rattle.tv_farkas.specs.declared.fault.CoverFault.{CoverFault}
use Rattle.tv_farkas.specs.declared.fault.CoverFault.TheVariants as cover
use Rattle.tv_nested.specs.declared.fault.NestFault.{NestFault}
use Rattle.tv_nested.specs.declared.fault.NestFault.TheVariants as fault

-- the denial of the row reaches 2^62 first at this column
abbrev pub IsWideAt : Linear → ℕ → Type 0
IsWideAt r column = GivesRow (denial r) (Err (row.Wide column))

abbrev pub IsWideDenial : Linear → CoverFault → Type 0
IsWideDenial r (cover.Splits path) = ⊥
IsWideDenial r (cover.Solve kept e) = ⊥
IsWideDenial r (cover.Wide column) = IsWideAt r column
IsWideDenial r cover.Memory = ⊥

-- the refusal of the denial of a sign
abbrev pub RefusesDenial : Linear → NestFault → Type 0
RefusesDenial r (fault.Solve system e) = ⊥
RefusesDenial r (fault.Cover f) = IsWideDenial r f
RefusesDenial r fault.Memory = Unit {0}

-- the refusal of the denial of one of the signs
abbrev pub RefusesSigns : List Linear → NestFault → Type 0
RefusesSigns signs (fault.Solve system e) = ⊥
RefusesSigns signs (fault.Cover f) = (r : Linear) × Contains signs r × IsWideDenial r f
RefusesSigns signs fault.Memory = Unit {0}
