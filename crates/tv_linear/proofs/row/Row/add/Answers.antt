use Rattle.std.proofs.Common.{◌≡◌, ◌+ℤ◌, List, ℤ}
use Rattle.tv_linear.specs.Linear.{columns, value}
use Rattle.tv_linear.specs.Arithmetic.{plus}
use Rattle.tv_linear.specs.Fits.{IsNarrowAt}
use Rattle.tv_linear.proofs.Building.{given-ok}
use Rattle.tv_linear.proofs.RowValues.{value-plus}
use Rattle.tv_linear.proofs.row.Row.add.Goals as goal

pub returns-clause-added : goal.returns-clause-added
returns-clause-added c =
    let left = c.args.self.now in
    let right = c.args.other.now in
    given-ok (IsNarrowAt (plus left right)) (columns (plus left right)) (plus left right) c.build.result (λ row. (xs : List ℤ) → value row xs ≡ value left xs +ℤ value right xs) c.build.ensures (λ xs. value-plus left right xs)
