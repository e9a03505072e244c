-- The faults of rows that were not made as those of covers.
use Rattle.std.specs.Prelude.{◌≡◌}
use Rattle.tv_linear.specs.declared.fault.RowFault.{RowFault}
use Rattle.tv_linear.specs.declared.fault.RowFault.TheVariants as rows
use Rattle.tv_farkas.specs.declared.fault.CoverFault.{CoverFault}
use Rattle.tv_farkas.specs.declared.fault.CoverFault.TheVariants.{Wide, Memory}

abbrev pub IsUnmadeBy : RowFault → CoverFault → Type 0
IsUnmadeBy (rows.Wide column) fault = fault ≡ Wide column
IsUnmadeBy rows.Memory fault = fault ≡ Memory
