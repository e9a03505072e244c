-- Refusals of named systems, as they are reported.
use Rattle.tv_simplex.specs.declared.fault.SolveFault.{SolveFault}
use Rattle.tv_simplex.specs.declared.fault.SolveFault.TheVariants.{Width, Scale, Pivots, Size, Memory}
use Rattle.tv_rank.specs.declared.name.Name.{Name}
use Rattle.tv_lexrank.specs.declared.fault.RankFault.{RankFault}
use Rattle.tv_lexrank.specs.declared.fault.RankFault.TheVariants as fault

-- what is reported of the named system: its fault, or want of memory, which is none of it
abbrev pub refusal_of : Name → SolveFault → RankFault
refusal_of system (Width basis row column) = fault.Solve system (Width basis row column)
refusal_of system (Scale basis) = fault.Solve system (Scale basis)
refusal_of system (Pivots bases) = fault.Solve system (Pivots bases)
refusal_of system (Size height width) = fault.Solve system (Size height width)
refusal_of system Memory = fault.Memory
