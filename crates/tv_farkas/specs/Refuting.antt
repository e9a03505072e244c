use Rattle.std.specs.Prelude.{◌≡◌, ℕ, ◌+◌, List, [], ◌∷◌, ◌++◌, length, map, get_or, ◌<◌, ℤ, pos, neg_ℤ}
use Rattle.tv_linear.specs.Linear.{Linear, IsScaledPoint}
use Rattle.tv_linear.specs.Known.{as_given}
use Rattle.tv_linear.specs.Refutation.{Refutes}
use Rattle.tv_simplex.specs.Outcomes.{IsShort, GivesSolution}
use Rattle.tv_simplex.specs.declared.fault.SolveFault.{SolveFault}
use Rattle.tv_simplex.specs.declared.fault.SolveFault.TheVariants.{Width, Scale, Pivots, Size, Memory}
use Rattle.tv_simplex.specs.Views.{IsFault}
use Rattle.tv_farkas.specs.declared.refuted.Refuted.{Refuted}
use Rattle.tv_farkas.specs.declared.refuted.Refuted.TheVariants.{Empty, Point}
use Rattle.tv_farkas.specs.RefutationSystem.{refutation_system, IsLarge, IsPointOf}

-- the multipliers refute the rows, or the point meets them
abbrev pub IsRefuted : ℕ → List Linear → Refuted → Type 0
IsRefuted n rows (Empty multipliers) = Refutes n (as_given rows) multipliers.items
IsRefuted n rows (Point values scale) = (length values.items ≡ n) × IsScaledPoint rows values.items scale

-- every number is below 2^62 in magnitude
abbrev pub AreShort : List ℤ → Type 0
AreShort numbers = (j : ℕ) → j < length numbers → IsShort (get_or numbers j (pos 0))

abbrev pub IsShortRefuted : Refuted → Type 0
IsShortRefuted (Empty multipliers) = AreShort multipliers.items
IsShortRefuted (Point values scale) = AreShort values.items × IsShort scale

-- it is what the last basis of the chain of the refutation system gives
abbrev pub GivesRefuted : ℕ → List Linear → Refuted → Type 0
GivesRefuted n rows (Empty multipliers) =
    (scale : ℤ) × GivesSolution (refutation_system n rows) multipliers.items scale
GivesRefuted n rows (Point values scale) = IsPointOf n rows values.items scale

-- the refusal is for the size of the system, or for want of memory
abbrev pub IsSize : ℕ → List Linear → SolveFault → Type 0
IsSize n rows (Width basis row column) = ⊥
IsSize n rows (Scale basis) = ⊥
IsSize n rows (Pivots bases) = ⊥
IsSize n rows (Size height width) = (height ≡ n + 1) × (width ≡ length rows)
IsSize n rows Memory = Unit {0}

-- what the refusal shows of the refutation system; want of memory shows nothing
abbrev pub IsSystemFault : ℕ → List Linear → ℕ → SolveFault → Type 0
IsSystemFault n rows pivots (Width basis row column) = IsFault (refutation_system n rows) pivots (Width basis row column)
IsSystemFault n rows pivots (Scale basis) = IsFault (refutation_system n rows) pivots (Scale basis)
IsSystemFault n rows pivots (Pivots bases) = IsFault (refutation_system n rows) pivots (Pivots bases)
IsSystemFault n rows pivots (Size height width) = IsLarge n rows × IsSize n rows (Size height width)
IsSystemFault n rows pivots Memory = ⊥

-- the refusal is one of the refutation system, or for want of memory
abbrev pub IsRefusal : ℕ → List Linear → ℕ → SolveFault → Type 0
IsRefusal n rows pivots (Width basis row column) = IsSystemFault n rows pivots (Width basis row column)
IsRefusal n rows pivots (Scale basis) = IsSystemFault n rows pivots (Scale basis)
IsRefusal n rows pivots (Pivots bases) = IsSystemFault n rows pivots (Pivots bases)
IsRefusal n rows pivots (Size height width) = IsSystemFault n rows pivots (Size height width)
IsRefusal n rows pivots Memory = Unit {0}

-- the point has the opposites of these numbers; the last opposite is the scale
abbrev pub IsOppositePoint : List ℤ → Refuted → Type 0
IsOppositePoint y (Empty multipliers) = ⊥
IsOppositePoint y (Point values scale) = y ≡ map neg_ℤ (values.items ++ scale ∷ [])
