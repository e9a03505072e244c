-- A case without guards where no row is known is taken at any point.
use Rattle.std.proofs.Common.{◌≡◌, zero, suc, ◌+◌, List, [], ◌∷◌, ◌++◌, arith, sym, subst, pos, ◌≤ℤ◌}
use Rattle.std.proofs.lemmas.Int.{ints}
use Rattle.std.proofs.lemmas.List.Elements.{All-nil}
use Rattle.tv_linear.specs.Linear.{Linear, scaled_value, IsScaledPoint}
use Rattle.tv_linear.specs.declared.region.Piece.{Piece}
use Rattle.tv_linear.specs.Arithmetic.{zeros}
use Rattle.tv_linear.proofs.PlainLists.{length-zeros}
use Rattle.tv_cases.specs.LinearCases.{CaseSystem}
use Rattle.tv_rank.specs.Sets.{PointsOf}
use Rattle.tv_rank.specs.Ways.{case_at, rows_at}

pub free_points : (about : CaseSystem) (known : List Piece) → (case_at about.cases 0).guards ≡ [] → rows_at known (case_at about.cases 0).from ≡ [] → PointsOf about known (0 ∷ [])
free_points about known g r zero h =
    let columns = about.variables + (case_at about.cases 0).draws in
    let none : IsScaledPoint [] (zeros columns) (pos 1) = record {
      positive = omega (arith, ints);
      met = All-nil (λ (row : Linear). scaled_value row (zeros columns) (pos 1) ≤ℤ pos 0);
    } in (
      zeros columns,
      pos 1,
      record {
        width = length-zeros columns;
        meets = subst (λ (rows : List Linear). IsScaledPoint rows (zeros columns) (pos 1)) (λ i. sym r i ++ sym g i) none;
      },
    )
free_points about known g r (suc k) h = absurd (omega (arith, h))
