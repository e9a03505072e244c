-- Depths below one at which no terms are nested.
use Rattle.std.proofs.Common.{ℕ, ◌+◌, List, length, inl, inr, arith, sym, subst}
use Rattle.tv_linear.specs.declared.region.Piece.{Piece}
use Rattle.tv_linear.proofs.ListLaws.{last_or_below}
use Rattle.tv_cases.specs.LinearCases.{CaseSystem}
use Rattle.tv_rank.specs.Ways.{way_at}
use Rattle.tv_nested.specs.Depths.{NoneBelow}
use Rattle.tv_nested.specs.Tuples.{NoneNested}

pub none_yet : (about : CaseSystem) (known : List Piece) (set : List ℕ) → NoneBelow about known set 2
none_yet about known set = λ i deep below. absurd (omega (arith, deep, below))

pub none_next : (about : CaseSystem) (known : List Piece) (set : List ℕ) (d : ℕ) → NoneBelow about known set d → NoneNested about.variables d (length set) (way_at about.cases known set) → NoneBelow about known set (d + 1)
none_next about known set d before none = λ i deep below. elim (last_or_below d i below) [
  | inl e ↦ subst (λ z. NoneNested about.variables z (length set) (way_at about.cases known set)) (sym e) none
  | inr l ↦ before i deep l
]
