-- Faults that are kept inside of others.
use Rattle.std.specs.Prelude.{◌≡◌}
use Rattle.tv_farkas.specs.declared.fault.CoverFault.{CoverFault}
use Rattle.tv_farkas.specs.declared.fault.CoverFault.TheVariants as covers
use Rattle.tv_region.specs.declared.fault.RegionFault.{RegionFault}
use Rattle.tv_region.specs.declared.fault.RegionFault.TheVariants as regions
use Rattle.tv_rounds.specs.declared.fault.RoundFault.{RoundFault}
use Rattle.tv_rounds.specs.declared.fault.RoundFault.TheVariants as rounds
use Rattle.tv_pre.specs.declared.fault.PreFault.{PreFault}
use Rattle.tv_pre.specs.declared.fault.PreFault.TheVariants.{Region, Cover, Rank, Memory}

-- the fault of a call on regions is kept, want of memory aside
abbrev pub IsOfRegion : RegionFault → PreFault → Type 0
IsOfRegion fault (Region kept) = (fault ≡ kept) × (kept ≡ regions.Memory → ⊥)
IsOfRegion fault (Cover kept) = ⊥
IsOfRegion fault (Rank system kept) = ⊥
IsOfRegion fault Memory = fault ≡ regions.Memory

-- the fault of a question is kept, want of memory aside
abbrev pub IsOfCover : CoverFault → PreFault → Type 0
IsOfCover fault (Region kept) = ⊥
IsOfCover fault (Cover kept) = (fault ≡ kept) × (kept ≡ covers.Memory → ⊥)
IsOfCover fault (Rank system kept) = ⊥
IsOfCover fault Memory = fault ≡ covers.Memory

-- the fault of rounds is kept
abbrev pub IsOfRounds : RoundFault → PreFault → Type 0
IsOfRounds fault (Region kept) = fault ≡ rounds.Region kept
IsOfRounds fault (Cover kept) = fault ≡ rounds.Cover kept
IsOfRounds fault (Rank system kept) = ⊥
IsOfRounds fault Memory = fault ≡ rounds.Memory
