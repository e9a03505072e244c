use Rattle.std.proofs.Common.{◌≡◌, List, ℤ, map}
use Rattle.tv_linear.specs.Linear.{columns, value}
use Rattle.tv_linear.specs.Arithmetic.{composed}
use Rattle.tv_linear.specs.Fits.{FitsComposed}
use Rattle.tv_linear.proofs.Building.{given-ok}
use Rattle.tv_linear.proofs.RowValues.{value-composed}
use Rattle.tv_linear.proofs.row.Row.compose.Goals as goal

pub returns-clause-put_in : goal.returns-clause-put_in
returns-clause-put_in c =
    let row = c.args.self.now in
    let terms = c.args.terms.now in
    let meant = composed row terms in
    given-ok (FitsComposed row terms) (columns meant) meant c.build.result (λ made. (xs : List ℤ) → value made xs ≡ value row (map (λ t. value t xs) terms)) c.build.ensures (λ xs. value-composed row terms xs)
